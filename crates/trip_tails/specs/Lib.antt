-- `Tails`: the trip that a ref names by its tail.
pub mod Tails
