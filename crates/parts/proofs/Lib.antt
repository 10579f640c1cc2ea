-- `Either`: the first of two texts that is not empty.
pub mod Either
