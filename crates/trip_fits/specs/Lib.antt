-- `Fits`: how well a trip's first departure fits. `Plans`: what the tables must be that a trip is found in.
pub mod Fits
pub mod Plans
