-- `Asked`: where the columns stand that a caller in C lends.
pub mod Asked
