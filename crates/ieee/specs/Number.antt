-- What the Rust's `f64::abs`, `max`, `clamp` and `min` give. Definitions only.
use Rattle.std.specs.Prelude.{false, cond, Float}
use Rattle.std.specs.Float.{nan, inf, fin}
use Rattle.std.specs.Float.Ieee.{lt}
pub use Rattle.floats.specs.Number.{nought, one}

-- the same with its sign clear
unfoldable pub abs_of : Float → Float
abs_of nan = nan
abs_of (inf s) = inf false
abs_of (fin s m e) = fin false m e

-- x where it is above k, and else k, also where x is NaN. It is the Rust's `x.max(k)` for a k that is neither NaN nor zero.
unfoldable pub max_of : Float → Float → Float
max_of x k = cond (lt k x) x k

-- the Rust's `x.clamp(0.0, 1.0)`: NaN and -0 stay
unfoldable pub clamp01_of : Float → Float
clamp01_of x = cond (lt x nought) nought (cond (lt one x) one x)

-- the lesser of two, where a NaN x is passed over: a step of the Rust's `fold(f64::INFINITY, f64::min)`
unfoldable pub least_of : Float → Float → Float
least_of best x = cond (lt x best) x best
