-- What the contracts cite. `Run`: the scheduled run.
pub mod Run
