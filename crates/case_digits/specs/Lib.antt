-- `Digits`: what digits of a base spell. `Escapes`: a byte as % and two digits.
pub mod Digits
pub mod Escapes
