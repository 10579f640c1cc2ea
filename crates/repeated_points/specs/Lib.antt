-- What the contracts cite. `Repeats`: whether a point is another than the last.
pub mod Repeats
