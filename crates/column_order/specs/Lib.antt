-- What the contracts cite. `Order`: the order of a table's rows by their key.
pub mod Order
