-- What the contracts cite. `Fraction`: how much of a leg has gone by.
pub mod Fraction
