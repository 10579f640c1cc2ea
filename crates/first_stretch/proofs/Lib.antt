-- `Turns`: what a turn of each loop over a part's stretches does. `Micro`: what the code writes for a millionth.
pub mod Turns
pub mod Micro
