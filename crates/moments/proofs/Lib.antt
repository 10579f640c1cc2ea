-- `Counts`: the counts of a moment.
pub mod Counts
