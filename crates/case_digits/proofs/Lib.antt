-- `Spelling`: what digits spell, one digit at a time.
pub mod Spelling
