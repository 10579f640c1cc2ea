-- The stand-ins of document 01 for sine and its kin, in its order of operations, each rounded once to binary64. Definitions only.
use Rattle.std.specs.Prelude.{Float}
use Rattle.std.specs.Float.{binary64}
use Rattle.std.specs.Float.Ieee.{of_int, add, mul, div, of_bits}
use Rattle.roots.specs.Root.{root_of}
use Rattle.maths.specs.Series.{whole, on_from, horner, sin_c, cos_c}

-- the f64 nearest to pi, and half of it
abbrev pub pi : Float
pi = of_bits binary64 0x4009_21fb_5444_2d18

abbrev pub half_pi : Float
half_pi = of_bits binary64 0x3ff9_21fb_5444_2d18

unfoldable pub radians_of : Float → Float
unfolding of_bits of_int div
radians_of x = mul binary64 x (div binary64 pi (whole 180))

unfoldable pub degrees_of : Float → Float
unfolding of_bits of_int div
degrees_of x = mul binary64 x (div binary64 (whole 180) pi)

unfoldable pub sin_of : Float → Float
unfolding horner on_from sin_c
sin_of r = mul binary64 r (horner sin_c (mul binary64 r r) 17)

unfoldable pub cos_of : Float → Float
unfolding horner on_from cos_c
cos_of r = horner cos_c (mul binary64 r r) 18

unfoldable pub hypot_of : Float → Float → Float
hypot_of x y = root_of (add binary64 (mul binary64 x x) (mul binary64 y y))
