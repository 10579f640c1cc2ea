-- `Long`: a text over 96 bytes is no line's token.
pub mod Long
