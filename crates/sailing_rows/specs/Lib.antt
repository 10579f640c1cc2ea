-- `Rows`: what the row of a sailing says.
pub mod Rows
