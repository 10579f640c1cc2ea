-- `Granted`: what may be taken for granted of the calls where nothing is refused. `Outcomes`: what the estimate comes to, of what its callees ensure.
pub mod Granted
pub mod Outcomes
