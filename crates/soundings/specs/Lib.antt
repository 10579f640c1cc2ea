pub mod Soundings
