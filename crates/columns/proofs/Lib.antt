-- `Scan`: how a pass over rows shows `some`. For callers, `Passed`: what is so of each row where a test is false.
pub mod Scan
pub mod Passed
