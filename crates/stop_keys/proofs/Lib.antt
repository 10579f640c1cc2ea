-- `Keys`: the keys of a stop's name, one after the other.
pub mod Keys
