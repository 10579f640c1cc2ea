-- For callers, `Passed`: what is so of each id where a test is false.
pub mod Passed
