-- `leg_drawing::leg::from_stop_to_stop` meets its contract.
use borrow.Author.Rules.{rules}
use native.Mathlib.Omega.{arith}
use mathlib.Core.Path.{refl}
use Rattle.point_columns.proofs.Rooms.{short, drawn}
use Rattle.leg_drawing.proofs.leg.from_stop_to_stop.Goals as goal

pub returns-then-sheet-n : goal.returns-then-sheet-n
returns-then-sheet-n c = record { result_value = (short 0 _ _ _ c.requires refl (rw c.draw_stops-n.ensures.value at c.if-sheet-n.true)).0; lat_after = (short 0 _ _ _ c.requires refl (rw c.draw_stops-n.ensures.value at c.if-sheet-n.true)).1.0; lon_after = (short 0 _ _ _ c.requires refl (rw c.draw_stops-n.ensures.value at c.if-sheet-n.true)).1.1; same = (refl, refl) }

pub returns : goal.returns
returns c =
    let e = c.draw_stops-drawn.ensures in
    let n = c.draw_stops-n.ensures.value in
    let h = c.if-sheet-n.false in
    let d = drawn 0 _ _ _ c.requires refl (omega (arith, n, h)) e.value
    (rw e.value at (e.lat_after (omega (arith, e.value, n, h)))) (rw e.value at (e.lon_after (omega (arith, e.value, n, h, c.requires)))) in
    record { result_value = d.0; lat_after = d.1.0; lon_after = d.1.1; same = e.same }
