use borrow.Author.Rules.{rules}
use Prim.Native.Nat.{◌-◌}
use native.Mathlib.Omega.{arith}
use mathlib.Core.Path.{refl, ◌∙◌}
use Rattle.journey_points.specs.Journey.{point_position}
use Rattle.journey_points.proofs.Stitching.{Going, start, more, done}
use Rattle.journey_points.proofs.stitch.draw_points.Goals as goal

pub loop-k-init : goal.loop-k-init
loop-k-init c = ((refl, refl), start _ _ _ _)

pub loop-k-preserved : goal.loop-k-preserved
loop-k-preserved c =
    let i = c.loop-k.invariant in
    let d = c.draw_one-drawn.ensures in
    ((d.same.0 ∙ i.0.0, d.same.1 ∙ i.0.1), more _ _ _ _ i.1 c.loop-k-test.true (d.sheet_after ∙ rw c.point_at-point.ensures))

pub returns : goal.returns
returns c = record { sheet_after = done _ _ _ _ c.loop-k.invariant.1 c.loop-k-test.false; same = c.loop-k.invariant.0 }
