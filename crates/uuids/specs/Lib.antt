-- `Uuids`: whether a text is a UUID.
pub mod Uuids
