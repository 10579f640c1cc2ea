-- `Places`: where the calls of a sailing are.
pub mod Places
