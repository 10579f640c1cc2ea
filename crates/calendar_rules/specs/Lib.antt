-- `Parts`: the causes of each calendar table.
pub mod Parts
