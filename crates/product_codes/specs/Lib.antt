-- `Codes`: the product code of a line.
pub mod Codes
