-- `Words`: the fixed texts. `Names`: the keys of a name, and the stop that it stands for.
pub mod Words
pub mod Names
