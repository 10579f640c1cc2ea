-- What the theorems cite. `Position`: the coordinates of a place on a leg. `Order`: which place is no earlier than which. `Granted`: what is granted of a leg where the order is proved.
pub mod Position
pub mod Order
pub mod Granted
