-- `Leg`: the points of a leg, of a line and the positions of a trip's stops.
pub mod Leg
