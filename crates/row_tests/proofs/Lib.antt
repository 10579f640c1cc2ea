-- `Rows`: what a loop over a trip's rows sees next. `Among`: what is found is a row of the trip, and passes.
pub mod Rows
pub mod Among
