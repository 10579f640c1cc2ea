-- `Parts`: the causes of the stops.
pub mod Parts
