-- What the stand-ins for the arcs answer fits binary64, whatever floats they are given: it is NaN, zero or the result of an operation, with its sign turned or not.
use mathlib.Core.Bool.{◌&&◌, ◌||◌}
use lib.Dec.{T}
use lib.Ieee.{Float, binary64, sub, mul, div, lt, eq, ne, fits}
use lib.Ieee.Fits.{cond-fits, nan-fits, neg-fits, sub-fits, mul-fits}
use Rattle.ieee.specs.Number.{abs_of}
use Rattle.roots.specs.Root.{root_of}
use Rattle.floats.proofs.Order.{nought, one}
use Rattle.floats.proofs.Own.{nought-fits}
use Rattle.maths.specs.Trig.{pi, half_pi}
use Rattle.arcs.specs.Arcs.{four_times, atan_of, angle_of, turned_of, atan2_of, asin_of}

atan_fits : (t : Float) → T (fits binary64 (atan_of t))
unfolding atan_of four_times
atan_fits t = mul-fits binary64 _ _

angle_fits : (a b : Float) → T (fits binary64 (angle_of a b))
unfolding angle_of
angle_fits a b = cond-fits binary64 (lt b a) _ _ (sub-fits binary64 half_pi (atan_of (div binary64 b a))) (atan_fits (div binary64 a b))

turned_fits : (y x a : Float) → T (fits binary64 a) → T (fits binary64 (turned_of y x a))
unfolding turned_of
turned_fits y x a h =
    let k = cond-fits binary64 (lt x nought) _ _ (sub-fits binary64 pi a) h in
    cond-fits binary64 (lt y nought) _ _ (neg-fits binary64 _ k) k

pub atan2_fits : (y x : Float) → T (fits binary64 (atan2_of y x))
unfolding atan2_of
atan2_fits y x =
    cond-fits binary64 (ne y y || ne x x) _ _ (nan-fits binary64)
    (cond-fits binary64 (eq y nought && eq x nought) _ _ (nought-fits binary64) (turned_fits y x _ (angle_fits (abs_of y) (abs_of x))))

pub asin_fits : (s : Float) → T (fits binary64 (asin_of s))
unfolding asin_of
asin_fits s = atan2_fits s (root_of (sub binary64 one (mul binary64 s s)))
