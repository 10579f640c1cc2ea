-- `Answers`: the operation, with its refusals.
pub mod Answers
