-- `Sums`: the first departure in local time.
pub mod Sums
