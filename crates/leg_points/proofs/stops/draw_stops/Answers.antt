use borrow.Author.Rules.{rules}
use Prim.Native.Nat.{◌-◌, ◌≤◌}
use native.Mathlib.Omega.{arith}
use mathlib.Core.Path.{◌∙◌, sym, refl}
use Rattle.trip_rows.specs.Rows.{row_position}
use Rattle.leg_parts.proofs.Offsets.{in_order, of_trip}
use Rattle.leg_points.proofs.Going.{Going, start, more, counted, lat_done, lon_done, nothing_drawn, drawn_rows}
use Rattle.leg_points.proofs.stops.draw_stops.Goals as goal

pub returns-then-leg-eq0 : goal.returns-then-leg-eq0
returns-then-leg-eq0 c = rw (nothing_drawn _ _ _ _ _ c.if-leg-eq0.true) (record { value = refl; lat_after = λ h. refl; lon_after = λ h. refl; lat_kept = refl; lon_kept = refl; same = (refl, refl) })

pub overflow_sub-rows : goal.overflow_sub-rows
overflow_sub-rows c = in_order _ _ _ c.leg_ends-ends.ensures

pub loop-k-init : goal.loop-k-init
loop-k-init c =
    let e = c.leg_ends-ends.ensures in
    (omega (arith, in_order _ _ _ e, of_trip _ _ _ e (omega (arith, c.if-leg-eq0.false))), (refl, refl), start _ _ _ _ _)

pub put-at-requires : goal.put-at-requires
put-at-requires c = omega (arith, c.loop-k.invariant.0, c.loop-k.invariant.2.no_more, c.loop-k-test.true)

pub loop-k-preserved : goal.loop-k-preserved
loop-k-preserved c =
    let i = c.loop-k.invariant in
    let p = c.put-at.ensures in
    (i.0, (p.same.0 ∙ i.1.0, p.same.1 ∙ i.1.1), more _ _ _ _ _ i.2 c.loop-k-test.true (c.next-drawn.ensures ∙ rw c.row_position.ensures) p.lat_after p.lon_after c.later-last.ensures p.value)

pub returns : goal.returns
returns c =
    let i = c.loop-k.invariant.2 in
    let h = c.loop-k-test.false in rw (← drawn_rows _ _ _ _ _ c.leg_ends-ends.ensures (omega (arith, c.if-leg-eq0.false))) (record { value = counted _ _ _ _ _ i h; lat_after = lat_done _ _ _ _ _ i h; lon_after = lon_done _ _ _ _ _ i h; lat_kept = i.drawn.lat_long; lon_kept = i.drawn.lon_long; same = c.loop-k.invariant.1 })
