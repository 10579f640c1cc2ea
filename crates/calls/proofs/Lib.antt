-- `Calls`: what is so of the calls.
pub mod Calls
