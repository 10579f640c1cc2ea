-- `Asked`: interpolation by a question's number.
pub mod Asked
