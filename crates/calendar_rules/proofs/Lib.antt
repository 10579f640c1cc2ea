-- `Parts`: what is so of each calendar table where no cause of it is there.
pub mod Parts
