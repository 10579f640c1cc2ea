-- What the contracts cite. `Thin`: points of which those at the one kept before are left out, and the ends of a chain. `Stops`: the stops of rows between two
-- sequences. `Chain`: a leg's chain. `Kept`: which stops a pass keeps.
pub mod Thin
pub mod Stops
pub mod Chain
pub mod Kept
