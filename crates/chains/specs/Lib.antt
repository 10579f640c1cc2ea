-- `Route`: a route over a leg's chain, and where the chain is at a fraction of it.
pub mod Route
