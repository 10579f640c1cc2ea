-- `Runs`: which services run on a day.
pub mod Runs
