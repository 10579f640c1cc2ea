-- For callers, `Finite`: what is so of each row where a test is false.
pub mod Finite
