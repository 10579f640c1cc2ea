-- `Named`: the trip that a ref names.
pub mod Named
