-- `Plans`: the tables that a trip is found in by its line and its time.
pub mod Plans
