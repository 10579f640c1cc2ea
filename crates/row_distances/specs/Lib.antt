-- What the contracts cite. `Rows`: a row, and what is written into one that has no distance.
pub mod Rows
