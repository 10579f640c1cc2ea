-- `Calls`: the calls that the updates come to.
pub mod Calls
