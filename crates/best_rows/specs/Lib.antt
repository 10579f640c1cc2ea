-- `Serving`: the row of the updates that serves best as the only stop.
pub mod Serving
