-- `Told`: answers as numbers.
pub mod Told
