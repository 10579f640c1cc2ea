-- `line_told::scale::no_scale` meets its contract.
use mathlib.Core.Path.{refl}
use lib.Ieee.{of_bits}
use Rattle.line_told.proofs.scale.no_scale.Goals as goal

pub returns : goal.returns
unfolding of_bits
returns c = refl
