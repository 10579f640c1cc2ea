-- What the contracts cite. `Interpolate`: the place and the position at a fraction of a span.
pub mod Interpolate
