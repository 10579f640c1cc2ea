-- What the code writes for a millionth. Assumes nothing.
use mathlib.Core.Path.{◌≡◌, refl}
use lib.Ieee.{binary64, div, of_bits, of_int}
use Rattle.first_stretch.specs.Search.{micro}

pub micro_is : of_bits binary64 0x3eb0c6f7a0b5ed8d ≡ micro
unfolding micro of_bits of_int div
micro_is = refl
