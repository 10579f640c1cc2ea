-- `Line`: the trip of a line that fits best.
pub mod Line
