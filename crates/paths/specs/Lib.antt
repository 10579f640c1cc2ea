-- What the contracts and theorems cite. `Path`: how a leg is drawn, and which path is chosen.
pub mod Path
