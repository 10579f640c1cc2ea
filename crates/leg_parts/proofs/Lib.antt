-- `Offsets`: the rows of a leg's stops.
pub mod Offsets
