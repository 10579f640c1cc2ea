-- `Holds`: what services may take for granted where nothing is refused.
pub mod Holds
