use borrow.Author.Rules.{rules}
use Prim.Native.Nat.{◌-◌, ◌≤◌}
use native.Mathlib.Omega.{arith}
use mathlib.Core.Path.{refl, ◌∙◌}
use Rattle.journey_points.specs.Journey.{leg_positions, journey_points}
use Rattle.journey_points.proofs.Stitching.{Stitching, begin, next_leg, over, finished}
use Rattle.journey_points.proofs.stitch.draw_legs.Goals as goal

pub overflow_cast-legs : goal.overflow_cast-legs
overflow_cast-legs c = search (rules, c.walk-1.given)

pub loop-k-init : goal.loop-k-init
loop-k-init c = (search (rules, c.walk-1.given), (refl, refl), begin _ _ _)

pub draw_leg-drawn-requires : goal.draw_leg-drawn-requires
draw_leg-drawn-requires c = omega (arith, c.loop-k.invariant.0, c.loop-k.invariant.2.on.few, c.loop-k-test.true)

pub loop-k-preserved : goal.loop-k-preserved
loop-k-preserved c =
    let i = c.loop-k.invariant in
    let d = c.draw_leg-drawn.ensures in
    (i.0, (d.same.0 ∙ i.1.0, d.same.1 ∙ i.1.1), next_leg _ _ _ i.2 c.loop-k-test.true d.sheet_after d.at_bound)

pub returns : goal.returns
unfolding journey_points
returns c = record { value = (finished _ _ _ (over _ _ _ c.loop-k.invariant.2 c.loop-k-test.false)).0; lat_after = (finished _ _ _ (over _ _ _ c.loop-k.invariant.2 c.loop-k-test.false)).1.0; lon_after = (finished _ _ _ (over _ _ _ c.loop-k.invariant.2 c.loop-k-test.false)).1.1; lat_kept = c.loop-k.invariant.2.on.lats; lon_kept = c.loop-k.invariant.2.on.lons; same = c.loop-k.invariant.1 }
