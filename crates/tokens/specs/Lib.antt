-- `Tokens`: the token of a line.
pub mod Tokens
