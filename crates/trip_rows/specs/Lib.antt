-- `Rows`: where the stop of a row is, and the line of a trip's shape.
pub mod Rows
