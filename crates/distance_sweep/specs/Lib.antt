-- What the contracts cite. `Nearest`: the slack, and what a search for the least distance remembers.
pub mod Nearest
