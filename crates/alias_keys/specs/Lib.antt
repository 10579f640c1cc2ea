-- `Words`: the fixed texts. `Aliases`: the keys of a ref, and the trip that one of them stands for.
pub mod Words
pub mod Aliases
