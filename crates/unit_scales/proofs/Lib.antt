-- `Units`: the first unit that a ratio is near, looked for one by one.
pub mod Units
