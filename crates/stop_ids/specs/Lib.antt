-- `Stops`: the stop that an update means.
pub mod Stops
