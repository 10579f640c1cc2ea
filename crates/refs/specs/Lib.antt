-- `Words`: the fixed texts. `Refs`: journey refs taken apart.
pub mod Words
pub mod Refs
