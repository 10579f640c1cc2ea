-- `Telling`: the unit. `Filling`: backfill by the tests that lead to it. `Keeps`: a distance that is there is as it was.
pub mod Telling
pub mod Filling
pub mod Keeps
