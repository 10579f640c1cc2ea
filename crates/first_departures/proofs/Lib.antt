-- `Earliest`: the first departure of rows.
pub mod Earliest
