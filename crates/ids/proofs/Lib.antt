-- `ByteOrder`: the order of texts is total. `Search`: what the first and the last number that passes a test are. `Rows`: a search by
-- halves finds a table's row. `Pools`: parts of pools.
pub mod ByteOrder
pub mod Search
pub mod Rows
pub mod Pools
pub mod SliceOrder
