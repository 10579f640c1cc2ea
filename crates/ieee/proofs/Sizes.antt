-- The size of a number is its own with the sign clear, as the library has it.
use mathlib.Core.Path.{◌≡◌, refl}
use mathlib.Core.Bool.{false}
use lib.Ieee.{Float, nan, inf, fin}
use Rattle.std.specs.Float.{float_with_sign}
use Rattle.ieee.specs.Number.{abs_of}

pub abs_of_is : (x : Float) → abs_of x ≡ float_with_sign false x
unfolding abs_of float_with_sign
abs_of_is nan = refl
abs_of_is (inf s) = refl
abs_of_is (fin s m e) = refl
