-- What the contracts cite. `Projection`: the cursor, and the vertices of a trip's stops.
pub mod Projection
