-- What the contracts cite. `Marks`: a bit a row. `Vertices`: what a pass over a chain's vertices carries. `Walk`: the same of a chain whose rows are marked.
pub mod Marks
pub mod Vertices
pub mod Walk
