-- What the contracts cite. `Rows`: tests of rows, and the first and the last row that passes one.
pub mod Rows
