-- `Refusals`: which refusal applies.
pub mod Refusals
