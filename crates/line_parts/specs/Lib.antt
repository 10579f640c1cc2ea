-- What the contracts cite. `Part`: a part of a line, and lengths along it.
pub mod Part
