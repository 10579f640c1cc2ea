-- `Fault`: whether a fault is there.
pub mod Fault
