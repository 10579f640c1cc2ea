-- `Running`: the length to each vertex.
pub mod Running
