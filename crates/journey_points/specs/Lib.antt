-- `Journey`: the points of a journey.
pub mod Journey
