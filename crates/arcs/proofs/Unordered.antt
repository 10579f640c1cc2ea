-- atan2's first test, that an argument differs from itself, is that it is NaN.
use mathlib.Core.Path.{◌≡◌}
use mathlib.Core.Bool.{cond, ◌&&◌, ◌||◌}
use lib.Ieee.{Float, nan, eq, is_nan}
use Rattle.floats.proofs.Nan.{differs_is}
use Rattle.ieee.specs.Number.{abs_of, nought}
use Rattle.arcs.specs.Arcs.{angle_of, turned_of, atan2_of}

pub atan2_of_is : (y x : Float) →
    atan2_of y x ≡ cond (is_nan y || is_nan x) nan (cond (eq y nought && eq x nought) nought (turned_of y x (angle_of (abs_of y) (abs_of x))))
unfolding atan2_of
atan2_of_is y x = rw (differs_is y, differs_is x)
