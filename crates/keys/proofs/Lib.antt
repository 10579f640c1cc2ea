-- `Uppers`: a text in upper case.
pub mod Uppers
