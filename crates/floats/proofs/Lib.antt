-- The laws of floats, over the format: `compare`, NaN, the order, rounding, sums, products, whole numbers, bounds and signs.
pub mod Compare
pub mod Nan
pub mod Signed
pub mod Order
pub mod Own
pub mod Sums
pub mod Products
pub mod Whole
pub mod Within
pub mod Signs
