-- `Times`: when a row arrives and departs.
pub mod Times
