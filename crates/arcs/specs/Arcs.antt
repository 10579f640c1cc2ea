-- The stand-ins of document 01 for the arcs, in its order of operations, each rounded once to binary64. Definitions only.
use Rattle.std.specs.Prelude.{cond, ◌&&◌, ◌||◌, Float}
use Rattle.std.specs.Float.{nan, binary64}
use Rattle.std.specs.Float.Ieee.{of_int, neg, add, sub, mul, div, lt, eq, ne}
use Rattle.ieee.specs.Number.{abs_of, nought, one}
use Rattle.roots.specs.Root.{root_of}
use Rattle.maths.specs.Series.{whole, on_from, horner, atan_c}
use Rattle.maths.specs.Trig.{pi, half_pi}

-- t / (1 + root (1 + t * t)): the tangent of half the angle
unfoldable pub halve_of : Float → Float
halve_of t = div binary64 t (add binary64 one (root_of (add binary64 one (mul binary64 t t))))

-- 4 * (t * Q(t * t))
unfoldable pub four_times : Float → Float
unfolding horner on_from atan_c of_int
four_times t = mul binary64 (whole 4) (mul binary64 t (horner atan_c (mul binary64 t t) 11))

unfoldable pub atan_of : Float → Float
unfolding halve_of four_times
atan_of t = four_times (halve_of (halve_of t))

-- the angle for the sizes a of y and b of x
unfoldable pub angle_of : Float → Float → Float
angle_of a b = cond (lt b a) (sub binary64 half_pi (atan_of (div binary64 b a))) (atan_of (div binary64 a b))

-- the angle a of the sizes, brought to the quarter of (x, y)
unfoldable pub turned_of : Float → Float → Float → Float
turned_of y x a =
    let b = cond (lt x nought) (sub binary64 pi a) a in
    cond (lt y nought) (neg b) b

unfoldable pub atan2_of : Float → Float → Float
atan2_of y x =
    cond (ne y y || ne x x) nan
    (cond (eq y nought && eq x nought) nought (turned_of y x (angle_of (abs_of y) (abs_of x))))

unfoldable pub asin_of : Float → Float
asin_of s = atan2_of s (root_of (sub binary64 one (mul binary64 s s)))
