-- `Parts`: the causes of the trips.
pub mod Parts
