use native.Mathlib.Omega.{arith}
use Rattle.row_lists.proofs.Writing.{fill_starts, fill_goes, fill_ends}
use Rattle.update_times.proofs.moment.fill.Goals as goal

pub loop-k-init : goal.loop-k-init
loop-k-init c = fill_starts _ _ _

pub bounds-out-k : goal.bounds-out-k
bounds-out-k c = omega (arith, c.loop-k.invariant.long, c.requires)

pub loop-k-preserved : goal.loop-k-preserved
loop-k-preserved c = fill_goes _ _ _ c.loop-k.invariant c.loop-k-test.true c.requires c.moment_or.ensures

pub shape_of-out : goal.shape_of-out
shape_of-out c = omega (arith, c.loop-k.invariant.long)

pub returns : goal.returns
returns c = fill_ends _ _ _ c.loop-k.invariant c.loop-k-test.false
