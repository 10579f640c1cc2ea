-- `Zeros`: an array of zeros.
pub mod Zeros
