-- `Keys`: a ref's keys, one after the other.
pub mod Keys
