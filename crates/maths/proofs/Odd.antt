-- The stand-in for the sine is odd, to the bit and for all floats: what it multiplies depends on the square alone. So is the turn to radians.
use mathlib.Core.Path.{◌≡◌}
use lib.Ieee.{Float, binary64, neg}
use Rattle.floats.proofs.Signs.{neg-mul, square_neg}
use Rattle.maths.specs.Trig.{radians_of, sin_of}

pub radians_odd : (x : Float) → radians_of (neg x) ≡ neg (radians_of x)
unfolding radians_of
radians_odd x = neg-mul binary64 x _

pub sin_odd : (r : Float) → sin_of (neg r) ≡ neg (sin_of r)
unfolding sin_of
sin_odd r = rw (square_neg binary64 r) (neg-mul binary64 r _)
