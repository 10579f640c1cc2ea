-- `reach::far::low` meets its contract.
use mathlib.Core.Path.{refl}
use lib.Ieee.{of_bits, of_int}
use Rattle.reach.specs.Reach.{low_of}
use Rattle.reach.proofs.far.low.Goals as goal

pub returns : goal.returns
unfolding low_of of_bits of_int
returns c = refl
