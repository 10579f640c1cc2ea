-- What the contracts of `trip_records` cite. `Records`: backfill of records, and of the columns that they are laid out in. `Answers`: the operation.
pub mod Records
pub mod Answers
