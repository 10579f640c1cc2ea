-- `Between`: a walk at a leg's ends and between them.
pub mod Between
