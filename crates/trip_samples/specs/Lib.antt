-- What the contracts cite. `Trip`: the sample that a row is, and the metres that a trip's distances stand for.
pub mod Trip
