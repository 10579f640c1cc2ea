-- `Operations`: the causes of each operation.
pub mod Operations
