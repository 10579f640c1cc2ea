-- What the contracts cite. `Polyline`: the place and the position at a fraction of the way from a stop to the next.
pub mod Polyline
