-- `Updates`: what a row of the updates says.
pub mod Updates
