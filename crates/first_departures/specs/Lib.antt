-- `Firsts`: the first departure of the updates.
pub mod Firsts
