-- `Squares`: what a turn of each loop over a line's squares does. `Least`: the first vertex at the root of the least square is the nearest.
pub mod Squares
pub mod Least
