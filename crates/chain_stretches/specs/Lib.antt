-- What the contracts cite. `Near`: two points that lie at one place. `Two`: a line of two points.
pub mod Near
pub mod Two
