-- `Matched`: what is so of the trip that is matched.
pub mod Matched
