-- `Answers`: a refusal or the value, and what is written.
pub mod Answers
