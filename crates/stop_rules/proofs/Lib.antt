-- `Parts`: what is so of the stops where no cause of them is there.
pub mod Parts
