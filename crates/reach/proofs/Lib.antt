-- `Low`: how long a way is at least. `Past`: what is past a limit.
pub mod Low
pub mod Past
