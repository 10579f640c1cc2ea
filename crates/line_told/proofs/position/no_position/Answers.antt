-- `line_told::position::no_position` meets its contract.
use mathlib.Core.Path.{refl}
use lib.Ieee.{of_bits}
use Rattle.line_told.proofs.position.no_position.Goals as goal

pub returns : goal.returns
unfolding of_bits
returns c = refl
