-- `Holds`: what matching may take for granted where nothing is refused. `Clock`: matching never reads the clock.
pub mod Holds
pub mod Clock
