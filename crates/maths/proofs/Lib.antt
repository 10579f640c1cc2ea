-- Which answers are odd.
pub mod Odd
