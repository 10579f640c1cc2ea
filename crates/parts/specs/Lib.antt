-- `Parts`: parts of a text.
pub mod Parts
