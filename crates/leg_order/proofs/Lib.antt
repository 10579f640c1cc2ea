-- `Turns`: turns of places. `Spots`: what a walk along a part gives strictly between a leg's ends. `Chosen`: which paths can be chosen, and what holds of each.
-- `Agree`: a position is that of the place. `Onward`: a larger fraction gives no earlier place.
pub mod Turns
pub mod Spots
pub mod Chosen
pub mod Agree
pub mod Onward
