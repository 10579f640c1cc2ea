-- `Bests`: the best of rows.
pub mod Bests
