-- `Laid`: records laid out in columns. `Told`: the operation, by its parts. `Keeps`: what backfill leaves of each record as it was.
pub mod Laid
pub mod Told
pub mod Keeps
