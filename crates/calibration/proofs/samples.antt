-- `Rows`: what the columns' rows are of the samples.
pub mod Rows
