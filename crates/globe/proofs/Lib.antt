-- `Between`: what a range of floats contains.
mod Between
