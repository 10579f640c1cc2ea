-- What the contracts cite. `Folds`: where a text stands in another.
pub mod Folds
