-- `Beside`: rows beside another.
pub mod Beside
