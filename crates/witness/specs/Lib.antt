-- `Case`: document 01's case of the Board, as it may be lent.
pub mod Case
