-- `Refusals`: the operation, refused or answered.
pub mod Refusals
