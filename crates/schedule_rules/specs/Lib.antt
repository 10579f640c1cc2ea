-- `Parts`: the causes of each part of the stop times.
pub mod Parts
