-- `Length`: the lengths of ways on the globe, in both forms of the Rust.
pub mod Length
