-- `Columns`: rows and their columns. `Written`: a row that has a distance is not written.
pub mod Columns
pub mod Written
