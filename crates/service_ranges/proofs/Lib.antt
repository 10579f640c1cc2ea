-- `Weekdays`: a day's weekday by its ordinal is that by its number.
pub mod Weekdays
