-- `Numerals`: the numbers of the case language that have no sign.
pub mod Numerals
