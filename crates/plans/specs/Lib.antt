-- The voyage that the lent tables come to, without the clock.
pub mod Plan
