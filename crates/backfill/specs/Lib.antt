-- What the contracts cite. `Samples`: the rows that tell the unit. `Trip`: backfill of a trip's rows.
pub mod Samples
pub mod Trip
