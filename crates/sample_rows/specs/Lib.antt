-- What the contracts cite. `Samples`: the rows that are samples.
pub mod Samples
