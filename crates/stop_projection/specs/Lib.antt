-- `Step`: the cursor's step as an operation.
pub mod Step
