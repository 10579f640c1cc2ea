-- What the contracts cite. `Forward`: the vertex that a stop lies at.
pub mod Forward
