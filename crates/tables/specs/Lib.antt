-- `Pools`: what is lent. `Bounds`: how large each table and id may be.
pub mod Pools
pub mod Bounds
pub mod Marks
