-- `Parts`: what is so of shapes, points and measures where no cause of them is there.
pub mod Parts
