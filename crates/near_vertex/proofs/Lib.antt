-- `First`: the first vertex near a stop. `Range`: the vertex is in range.
pub mod First
pub mod Range
