-- What the contracts cite. `Scale`: the units of distance, and the one that a ratio is near. `Metres`: the metres that distances stand for, by two of them.
pub mod Scale
pub mod Metres
