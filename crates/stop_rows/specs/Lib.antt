-- `Rows`: the stop at a sequence in a trip.
pub mod Rows
