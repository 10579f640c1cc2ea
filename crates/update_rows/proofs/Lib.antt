-- `Moments`: times as moments.
pub mod Moments
