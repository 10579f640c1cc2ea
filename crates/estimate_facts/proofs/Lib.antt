-- `Columns`: rows of columns that are not at fault. `Asked`: the updates, the calls and the sailing. `Trips`: the trips that are found, their
-- rows and lines, and the stops of calls.
pub mod Columns
pub mod Asked
pub mod Trips
