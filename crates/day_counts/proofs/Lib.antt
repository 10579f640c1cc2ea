-- Signed numbers, and the laws of weekdays and service days.
pub mod Signed
pub mod Weekdays
pub mod ServiceDays
pub mod Apart
