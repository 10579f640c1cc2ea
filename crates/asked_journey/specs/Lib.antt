-- `Journeys`: what the row of a journey says.
pub mod Journeys
