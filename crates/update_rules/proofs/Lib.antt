-- `Parts`: what is so of the updates and of the sailing where no cause of it is there.
pub mod Parts
