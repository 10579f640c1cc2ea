-- What the contracts cite. `Cmp`: the order of texts. `First`: the first and the last number that passes a test. `Pool`: columns.
-- `Rows`: a table's rows and the row of a key. `Bytes`: kinds of bytes and upper case.
pub mod Cmp
pub mod First
pub mod Pool
pub mod Rows
pub mod Bytes
