-- `Halves`: what halving rows that ascend finds. `Ascends`: tables that are not refused ascend as these searches ask.
pub mod Halves
pub mod Ascends
