-- `Skip`: what is passed over changes nothing. `Remembered`: what a search remembers stays true.
pub mod Skip
pub mod Remembered
