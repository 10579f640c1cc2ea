-- `Voyages`: the outcomes of a voyage at two clocks. `Agree`: places and coordinates. `Silence`: where it falls.
pub mod Voyages
pub mod Agree
pub mod Silence
