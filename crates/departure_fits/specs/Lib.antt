-- `Departures`: how far a departure is from its count.
pub mod Departures
