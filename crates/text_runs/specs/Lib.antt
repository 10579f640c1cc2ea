-- What the contracts cite. `Runs`: where a byte stands, and how far a run goes.
pub mod Runs
