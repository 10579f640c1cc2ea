-- `Moments`: a moment as two counts.
pub mod Moments
