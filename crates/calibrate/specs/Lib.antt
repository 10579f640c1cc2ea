-- `Answers`: what the operations answer, as document 01 numbers it.
pub mod Answers
