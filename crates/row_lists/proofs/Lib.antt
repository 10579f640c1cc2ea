-- `Rows`: rows that pass a test. `Writing`: lists that a loop writes from their start.
pub mod Rows
pub mod Writing
