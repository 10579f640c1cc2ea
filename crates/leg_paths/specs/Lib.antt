-- What the contracts cite. `Leg`: the shape and the chain of a leg of a trip, and its path.
pub mod Leg
