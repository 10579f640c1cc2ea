-- What the contracts cite. `Length`: lengths along a line.
pub mod Length
