-- `Runs`: what is found in a text lies in it.
pub mod Runs
