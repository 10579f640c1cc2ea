use native.Mathlib.Omega.{arith}
use lib.Ieee.{of_bits, of_int}
use Rattle.sphere_lengths.specs.Length.{haversin_of}
use Rattle.sphere_lengths.proofs.haversines.haversin.Goals as goal

pub returns : goal.returns
unfolding haversin_of of_bits of_int
returns c = grind arith
