-- `Told`: what is written of an answer.
pub mod Told
