-- What the contracts cite. `Search`: the first stretch that a target meets.
pub mod Search
