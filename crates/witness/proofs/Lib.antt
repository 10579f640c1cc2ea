-- `East`: a bearing. `Witness`: document 01's case.
pub mod East
pub mod Witness
