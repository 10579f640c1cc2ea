-- `Folds`: what a loop over two texts sees next, and where a text that is found ends.
pub mod Folds
