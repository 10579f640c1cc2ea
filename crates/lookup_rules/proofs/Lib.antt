-- `Parts`: what is so of each part that trips and stops are looked up by where no cause of it is there.
pub mod Parts
