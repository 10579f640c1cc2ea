-- `Distances`: the place between two distances of lent rows.
pub mod Distances
