-- What the contracts cite. `Answers`: the published operations.
pub mod Answers
