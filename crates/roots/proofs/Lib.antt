-- `Whole` says what the whole root is. `Marks` takes the rounded root to one rounding at any scale: `Machine` takes it so to the machine's, and `Order`
-- to the order of rounded roots. `Roots` has the order of square roots, for other crates.
mod Whole
mod Marks
mod Machine
mod Order
pub mod Roots
