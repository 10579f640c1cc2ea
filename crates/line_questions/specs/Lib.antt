-- `Asked`: the position that each question asks for.
pub mod Asked
