-- `Turn`: what is left of a bearing past a whole turn.
pub mod Turn
