-- `Parts`: what is so of each part of the stop times where no cause of it is there.
pub mod Parts
