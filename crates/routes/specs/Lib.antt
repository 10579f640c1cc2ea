-- What the contracts cite. `Route`: a part of a line with its length, walked by a fraction.
pub mod Route
