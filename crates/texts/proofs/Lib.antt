-- `Trims`: how a text ends, and a text taken away at the end of another, time after time.
pub mod Trims
