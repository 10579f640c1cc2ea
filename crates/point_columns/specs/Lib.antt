-- `Drawn`: the points that are drawn of positions one after another, and a point in both columns. `Sheet`: a drawing as it goes. `Columns`: the two columns as they
-- are lent. `Answers`: what an operation that draws answers and writes.
pub mod Drawn
pub mod Sheet
pub mod Answers
pub mod Columns
