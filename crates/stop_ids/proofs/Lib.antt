-- `Facts`: what is so of a stop that is found.
pub mod Facts
