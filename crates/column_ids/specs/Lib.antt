-- What the contracts cite. `Text`: what is at fault in a text and in a row of a column of ids.
pub mod Text
