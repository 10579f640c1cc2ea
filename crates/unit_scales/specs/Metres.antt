-- The metres that a feed's distances stand for, by two of them and their metres. Each operation is rounded once to binary64. Definitions only.
use Rattle.unit_scales.specs.declared.metres.Affine.{Affine}
use Rattle.std.specs.Prelude.{Bool, false, cond, ◌&&◌, ◌||◌, Float, Option, Some, None}
use Rattle.std.specs.Float.{inf, binary64}
use Rattle.std.specs.Float.Ieee.{sub, mul, div, lt}
use Rattle.ieee.specs.Number.{abs_of, nought, one}
use Rattle.unit_scales.specs.Scale.{decimal, snap_unit_scale}

-- two numbers are less than `least` apart; NaN is not
unfoldable pub too_near : Float → Float → Float → Bool
too_near x y least = lt (abs_of (sub binary64 y x)) least

-- a scale is finite and above zero
unfoldable pub is_scale : Float → Bool
is_scale b = lt nought b && lt b (inf false)

-- with b metres for a unit, where the distance d is at m metres
unfoldable pub scaled : Float → Float → Float → Option Affine
scaled b d m = cond (is_scale b) (Some (record { a = sub binary64 m (mul binary64 b d); b = b })) None

-- where d0 is at m0 metres and d1 at m1: none if distances or metres are too near each other
unfoldable pub affine_between : Float → Float → Float → Float → Option Affine
affine_between d0 m0 d1 m1 =
    cond (too_near d0 d1 (decimal 1 1000000000) || too_near m0 m1 one) None
    (scaled (snap_unit_scale (div binary64 (sub binary64 m1 m0) (sub binary64 d1 d0))) d0 m0)
