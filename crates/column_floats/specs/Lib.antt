-- `Real`: what is at fault in a row of a column of floats.
pub mod Real
