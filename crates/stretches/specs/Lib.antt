-- What the contracts cite. `Drawing`: the position and the bearing of a spot.
pub mod Drawing
