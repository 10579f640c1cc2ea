-- `Parts`: the causes of each part that trips and stops are looked up by.
pub mod Parts
