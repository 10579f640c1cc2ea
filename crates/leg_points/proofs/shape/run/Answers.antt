use borrow.Author.Rules.{rules}
use Prim.Native.Nat.{◌+◌, ◌-◌}
use native.Mathlib.Omega.{arith}
use mathlib.Core.Path.{◌∙◌}
use Rattle.lengths.specs.Line.{line_of}
use Rattle.trip_rows.specs.Rows.{row_position}
use Rattle.leg_points.proofs.Positions.{Run, starts, goes_on, ends}
use Rattle.leg_points.proofs.shape.run.Goals as goal

pub loop-k-init : goal.loop-k-init
loop-k-init c = starts _ _ _ _ _

pub loop-k-preserved : goal.loop-k-preserved
loop-k-preserved c =
    goes_on _ _ _ _ _ c.loop-k.invariant c.loop-k-test.true (c.pass.ensures ∙ rw c.row_position-stop.ensures)

pub returns : goal.returns
returns c = ends _ _ _ _ _ c.loop-k.invariant c.loop-k-test.false
