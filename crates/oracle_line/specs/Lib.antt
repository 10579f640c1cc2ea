-- `Asked`: what a caller in C asks, and is told.
pub mod Asked
