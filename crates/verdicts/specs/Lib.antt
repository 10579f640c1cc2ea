-- `Refuse`: what makes a refusal, and the first that applies. `Verdict`: the least so far, as a number.
pub mod Refuse
pub mod Verdict
