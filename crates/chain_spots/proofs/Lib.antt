-- `Turns`: what a turn of each pass along a chain does.
pub mod Turns
