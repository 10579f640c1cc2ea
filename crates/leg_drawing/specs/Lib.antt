-- `Trip`: the points of a leg of the trip asked of.
pub mod Trip
