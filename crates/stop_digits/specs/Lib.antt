-- `Stops`: the digits of a stop's text.
pub mod Stops
