-- `Writing`: the words that a loop writes, one by one. `Rooms`: what is answered and written where only room is wanting.
pub mod Writing
pub mod Rooms
