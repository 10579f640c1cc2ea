-- `Laws`: the row before a call is a row of its trip and positioned.
pub mod Laws
