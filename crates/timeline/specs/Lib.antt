-- What the contracts cite. `Turn`: which call or leg the clock falls to.
pub mod Turn
