-- What the contracts cite. `Tables`: backfill of the trips of the tables, of one and of one after the other.
pub mod Tables
