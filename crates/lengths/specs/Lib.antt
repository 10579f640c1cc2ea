-- What the contracts cite. `Line`: points, and a line of two columns.
pub mod Line
