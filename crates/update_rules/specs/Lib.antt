-- `Parts`: the causes of the updates and of the sailing.
pub mod Parts
