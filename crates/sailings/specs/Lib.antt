-- `Sailing`: the static trip that a sailing stands for.
pub mod Sailing
