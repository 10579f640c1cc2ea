-- `chain_lines::stop::no_point` meets its contract.
use mathlib.Core.Path.{refl}
use lib.Ieee.{div, of_bits}
use Rattle.chain_lines.proofs.stop.no_point.Goals as goal

pub returns : goal.returns
unfolding div of_bits
returns c = refl
