use Rattle.std.proofs.Common.{refl, arith}
use Rattle.std.specs.Float.{nan}
use lib.Ieee.{of_bits}
use Rattle.filled_rows.proofs.Walking.{starts, goes_on, ends}
use Rattle.filled_rows.proofs.each.fill.Goals as goal

pub loop-k-init : goal.loop-k-init
unfolding of_bits
loop-k-init c = starts _ _ _ _ _ _ _ c.requires.nonzero c.requires.n_value c.requires.n_value_2 refl

pub walk-walked-requires : goal.walk-walked-requires
walk-walked-requires c = record { at_in_bounds = c.loop-k.invariant.here; sum_value = c.loop-k.invariant.walked }

pub loop-k-preserved : goal.loop-k-preserved
loop-k-preserved c = goes_on _ _ _ _ _ _ _ c.loop-k.invariant c.loop-k-test.true nan c.row_position.ensures c.walk-walked.ensures refl refl

pub returns : goal.returns
returns c = let e = ends _ _ _ _ _ _ _ c.loop-k.invariant (omega arith) in record { dist_after = e.0; measured_after = e.1 }
