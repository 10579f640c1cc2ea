-- What the contracts cite. `Course`: flags, a shape's line, and rows that are found.
pub mod Course
