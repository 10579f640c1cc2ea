-- What the contracts cite. `Routed`: the route from a stop to the next.
pub mod Routed
