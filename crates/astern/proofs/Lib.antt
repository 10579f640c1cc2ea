-- `Same`: what is read of the lent tables beside the clock. `Pins`: the pin is read only where there is no call. `Voyages`: the voyage with two clocks. `Legs`: a voyage's legs. `Demand`: the theorems.
pub mod Same
pub mod Pins
pub mod Voyages
pub mod Legs
pub mod Demand
