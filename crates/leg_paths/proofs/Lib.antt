-- `Choice`: how each path is chosen. `Legs`: a leg's chain is one from end to end, and its path is one that can be chosen.
pub mod Choice
pub mod Legs
