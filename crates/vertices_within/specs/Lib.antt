-- What the contracts cite. `Near`: distances from a stop, their least, and the first and last that are small enough.
pub mod Near
