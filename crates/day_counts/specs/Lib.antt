-- What the contracts say: division rounded down, weekdays, and service days.
pub mod Floor
pub mod Weekdays
pub mod Service
