-- The nearest f32 is the one that the library rounds to.
use mathlib.Core.Path.{◌≡◌, refl}
use lib.Ieee.{Float, nan, inf, fin, binary32}
use Rattle.std.specs.Float.{round_to_format}
use Rattle.float_bits.specs.Single.{narrow_of}

pub narrow_is : (x : Float) → narrow_of x ≡ round_to_format binary32 x
unfolding narrow_of round_to_format
narrow_is nan = refl
narrow_is (inf s) = refl
narrow_is (fin s m e) = refl
