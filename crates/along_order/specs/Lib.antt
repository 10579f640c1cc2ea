-- What the theorems say. `Order`: the order of places on a part of a line. `Granted`: what is granted of lengths and distances.
pub mod Order
pub mod Granted
