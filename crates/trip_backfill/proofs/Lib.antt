-- `Rooms`: the operations.
pub mod Rooms
mod Copying
