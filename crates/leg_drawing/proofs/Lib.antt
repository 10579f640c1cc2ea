-- `Trips`: the points of the trip found. `Drawn`: what holds of every leg's points.
pub mod Trips
pub mod Drawn
