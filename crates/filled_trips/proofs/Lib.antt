-- `Among`: the trips of the tables, one after the other. `Keeps`: what backfill leaves as it was.
pub mod Among
pub mod Keeps
