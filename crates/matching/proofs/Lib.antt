-- `Tokens`: a journey with a token, and one without.
pub mod Tokens
