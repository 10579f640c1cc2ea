-- The calendar's closed forms.
pub mod Bools
pub mod Months
pub mod Years
