-- `Sums`: vertices past a line's last, and the sum to the next vertex.
pub mod Sums
