-- `Samples`: what samples that are lent tell.
pub mod Samples
