-- What the contracts cite. `Rows`: some row, the rows that count, flags. `Number`: what is at fault in a row of a column.
pub mod Rows
pub mod Number
