-- `Stands`: how a row of a table stands to a key.
pub mod Stands
