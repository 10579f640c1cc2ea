-- `Parts`: what is so of the trips where no cause of them is there.
pub mod Parts
