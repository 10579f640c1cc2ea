-- What the contracts cite. `Way`: what the way that a line is sailed makes of a fraction.
pub mod Way
