-- `Words`: a fixed text of a trip's id. `Trips`: the trip whose id a text is.
pub mod Words
pub mod Trips
