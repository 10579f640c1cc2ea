-- `Rows`: what the columns' rows are of a line.
pub mod Rows
