-- `Rows`: rows of a table that ascend, and the place of a key among them.
pub mod Rows
