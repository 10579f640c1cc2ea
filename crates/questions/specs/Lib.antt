-- `Hex`: the number that hexadecimal digits stand for. `Lines`: where a line ends.
pub mod Hex
pub mod Lines
