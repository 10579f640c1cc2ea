-- `Matching`: the trip that a journey stands for.
pub mod Matching
