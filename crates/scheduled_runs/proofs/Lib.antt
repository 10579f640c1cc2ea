-- `Bounds`: a run is 30 to 604,799 seconds.
pub mod Bounds
