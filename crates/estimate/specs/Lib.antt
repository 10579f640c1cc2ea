-- The estimate as an operation, with its refusals.
pub mod Answers
