-- `Positions`: the positions of a trip's rows, in parts. `Between`: the part of the line between a leg's stops. `Going`: stops drawn one by one.
pub mod Positions
pub mod Between
pub mod Going
