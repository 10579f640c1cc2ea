-- `Refusal`: the refusals' numbers. `Answer`: what an operation answers, a refusal's number alone or a value.
pub mod Refusal
pub mod Answer
