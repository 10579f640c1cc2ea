-- `Parts`: the causes of shapes, points and measures.
pub mod Parts
