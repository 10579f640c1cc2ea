-- `Since`: signed seconds are small.
pub mod Since
