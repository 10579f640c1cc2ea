-- What the code writes for 1e-9 and 1e-6. Assumes nothing.
use mathlib.Core.Path.{◌≡◌, refl}
use lib.Ieee.{binary64, div, of_bits, of_int}
use Rattle.first_stretch.specs.Search.{micro}
use Rattle.routes.specs.Route.{nano}

pub nano_is : of_bits binary64 0x3e112e0be826d695 ≡ nano
unfolding nano of_bits of_int div
nano_is = refl

pub micro_is : of_bits binary64 0x3eb0c6f7a0b5ed8d ≡ micro
unfolding micro of_bits of_int div
micro_is = refl
