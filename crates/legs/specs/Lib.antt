-- What the contracts cite. `Place`: where on a leg. `Walk`: what a walk along a leg gives.
pub mod Place
pub mod Walk
