-- What the contracts cite. `Rows`: which rows and ends a leg's chain has.
pub mod Rows
