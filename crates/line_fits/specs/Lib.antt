-- `Lines`: the row of a line that fits best. `Asked`: how well the rows of a line fit.
pub mod Lines
pub mod Asked
