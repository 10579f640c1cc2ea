-- What the contract cites. `Record`: a record that is filled.
pub mod Record
