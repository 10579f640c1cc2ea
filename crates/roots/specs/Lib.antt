-- `Whole`: the whole part of a root. `Root`: the square root.
pub mod Whole
pub mod Root
