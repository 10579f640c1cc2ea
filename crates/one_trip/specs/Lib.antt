-- What the contract cites. `One`: how many trips a number names.
pub mod One
