-- `Thinning`: a pass over rows keeps the points that are thinned. `Ends`: a chain's vertices, at its ends and between. `Line`: a chain goes from end to end.
pub mod Thinning
pub mod Ends
pub mod Line
