-- `Stitching`: legs and points drawn one after another.
pub mod Stitching
