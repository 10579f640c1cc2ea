-- `Shift`, `Bits`: bits of words. `Counting`: how many vertices a chain has. `Direction`: the rows of a chain in its direction. `Marking`, `Standing`: a turn of the pass that marks rows, and of the one over vertices.
pub mod Shift
pub mod Bits
pub mod Direction
pub mod Marking
pub mod Standing
pub mod Counting
