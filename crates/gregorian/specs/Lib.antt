-- What the contracts say: the calendar the long way.
pub mod Gregorian
