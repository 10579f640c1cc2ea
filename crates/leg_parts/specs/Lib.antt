-- What the contracts cite. `Parts`: the rows of a leg's stops, the part of a line between two vertices, and whether two points are apart.
pub mod Parts
