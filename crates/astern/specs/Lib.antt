-- `Clocks`: what is lent with two clocks, and what demand 3 grants of it. `Silent`: document 01's cases of silence.
pub mod Clocks
pub mod Silent
