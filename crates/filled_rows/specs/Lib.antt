-- What the contracts cite. `Walk`: stops and their rows.
pub mod Walk
