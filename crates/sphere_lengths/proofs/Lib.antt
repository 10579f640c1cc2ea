-- How large lengths get, that their two forms agree, and that they are the same both ways.
pub mod Lengths
pub mod TwoForms
pub mod Symmetric
