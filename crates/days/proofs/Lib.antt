-- The laws of dates.
pub mod Ordinals
pub mod Ascending
pub mod Next
