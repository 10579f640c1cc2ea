-- `Writing`: points written one by one. `Sheets`: a drawing as it goes. `Rooms`: what is answered and written.
pub mod Writing
pub mod Sheets
pub mod Rooms
