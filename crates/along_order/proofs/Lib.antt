-- `Clamp`: the clamp to 0..1 and the fraction of a stretch do not fall. `Search`: a farther target meets no earlier stretch. `Sums`: lengths along a part.
-- `Turned`: both ways of sailing. `Along` and `ByDistance`: a larger fraction gives no earlier place, for each kind of path. `Agree`: a position is that of the place.
pub mod Clamp
pub mod Search
pub mod Sums
pub mod Turned
pub mod Along
pub mod ByDistance
pub mod Agree
