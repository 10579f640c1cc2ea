-- `Order`: a trip's vertices are in range and in order. `Split`: a trip in two parts.
pub mod Order
pub mod Split
