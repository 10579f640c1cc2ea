-- `Refused`: what a verdict of 0 tells.
pub mod Refused
