-- `Placed`: a stop and its row. `Walking`: the rows of a trip, filled one by one.
pub mod Placed
pub mod Walking
