-- `Parts`: the causes of each part that is asked of.
pub mod Parts
