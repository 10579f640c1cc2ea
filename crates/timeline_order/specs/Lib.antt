-- `Order`: the order of turns, and calls whose times do not go back.
pub mod Order
