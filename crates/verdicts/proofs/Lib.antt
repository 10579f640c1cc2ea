-- How causes add up, what tables that are not refused are, and what that says of each kind of column.
pub mod Folds
pub mod Passed
pub mod Facts
