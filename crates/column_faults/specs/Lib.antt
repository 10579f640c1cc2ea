-- `Faulty`: the faults of one column that are about its rows or its numbers.
pub mod Faulty
