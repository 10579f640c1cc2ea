-- What the contracts cite. `Rows`: a list changed row by row. `Records`: records that are filled, and the columns of records.
pub mod Rows
pub mod Records
