-- How large the answers can get, and that they fit. `Close`: that `atan2_of` stays within 4. `Quotients`: a quotient falls as its divisor grows. `Unordered`: NaN.
pub mod Bounds
pub mod Fits
pub mod Quotients
pub mod Close
mod Unordered
