-- `Truth`: truth values as equations. `Search`: what a turn of each loop over a line's distances does. `Distance`: what a distance is the way of.
pub mod Truth
pub mod Search
pub mod Distance
