-- `Record`: the estimate's record, and the place beside it. `Voyage`: a sailing without its clock. `Outcome`: what it comes to at a clock.
pub mod Record
pub mod Voyage
pub mod Outcome
