-- `Moments`: the signed numbers of the case language.
pub mod Moments
