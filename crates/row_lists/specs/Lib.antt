-- `Rows`: rows that pass a test.
pub mod Rows
