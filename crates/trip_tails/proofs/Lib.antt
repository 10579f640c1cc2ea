-- `Tails`: rows whose ids have a tail.
pub mod Tails
