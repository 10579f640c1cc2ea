-- `Backward`: the least of distances with one more before them.
pub mod Backward
