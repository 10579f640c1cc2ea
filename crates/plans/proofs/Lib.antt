-- `Granted`: what may be taken for granted where nothing is refused. `Best`: the row that serves best. `Approach`: a leg's parts. `Turns`: towards the first call.
pub mod Granted
pub mod Best
pub mod Approach
pub mod Turns
