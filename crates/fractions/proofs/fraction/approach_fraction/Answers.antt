-- `fractions::fraction::approach_fraction` meets its contract.
use lib.Ieee.{of_bits, of_int}
use Rattle.fractions.specs.Fraction.{approach_fraction, run_over}
use Rattle.fractions.proofs.fraction.approach_fraction.Goals as goal

pub returns : goal.returns
unfolding approach_fraction run_over of_bits of_int
returns c =
    rw (c.clamp01.ensures, c.max_of-scheduled.ensures, c.nearest_u64_to_f64.ensures, c.nearest_u64_to_f64-remaining.ensures, c.less.ensures)
