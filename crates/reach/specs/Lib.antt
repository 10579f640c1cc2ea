-- `Reach`: the way of an arc, and how far it reaches at least.
pub mod Reach
