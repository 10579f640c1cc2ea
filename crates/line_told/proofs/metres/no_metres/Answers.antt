-- `line_told::metres::no_metres` meets its contract.
use mathlib.Core.Path.{refl}
use lib.Ieee.{of_bits}
use Rattle.line_told.proofs.metres.no_metres.Goals as goal

pub returns : goal.returns
unfolding of_bits
returns c = refl
