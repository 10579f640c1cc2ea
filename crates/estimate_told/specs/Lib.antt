-- `Told`: an estimate's answer as numbers.
pub mod Told
