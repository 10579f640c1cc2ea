-- `Vertices`: the vertices of a trip's stops, as words. `Written`: what is answered and written where only room is wanting.
pub mod Vertices
pub mod Written
