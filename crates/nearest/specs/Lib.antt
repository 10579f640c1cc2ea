-- What the contracts cite. `Nearest`: the vertex nearest to a stop. `Squares`: the squares of distances.
pub mod Nearest
pub mod Squares
