-- `Crowds`: another row of a line is as likely as the one found.
pub mod Crowds
