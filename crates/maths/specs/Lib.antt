pub mod Series
pub mod Trig
