-- `Causes`: what a journey is refused for.
pub mod Causes
