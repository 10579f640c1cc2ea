-- `Best`: the row that fits best, and the rows of a line. `Lines`: where a line begins.
pub mod Best
pub mod Lines
