-- `Says`: what a turn says of the clock. `Order`: as the clock goes on, its turn does not go back. `Fractions`: nor does the fraction of a leg, which
-- strictly between its two moments is strictly between 0 and 1. `Quotients`: quotients of whole numbers.
pub mod Says
pub mod Order
pub mod Quotients
pub mod Fractions
