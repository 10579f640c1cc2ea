-- `estimate_told::answer::unanswered` meets its contract.
use mathlib.Core.Path.{refl}
use lib.Ieee.{of_bits}
use Rattle.estimate_told.proofs.answer.unanswered.Goals as goal

pub returns : goal.returns
unfolding of_bits
returns c = refl
