-- `Columns`: a part of a line by its columns.
pub mod Columns
