-- `Parts`: what is so of each part that is asked of where no cause of it is there.
pub mod Parts
