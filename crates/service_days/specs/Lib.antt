-- `Services`: whether a service's row runs, and the same with its refusals, as document 01 numbers them.
pub mod Services
