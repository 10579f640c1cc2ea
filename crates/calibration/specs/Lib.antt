-- What the contracts cite. `Affine`: the metres that a feed's distances stand for, by two samples. `Samples`: samples in columns.
pub mod Affine
pub mod Samples
