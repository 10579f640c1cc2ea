-- `Told`: answers where nothing is refused, and refusals.
pub mod Told
