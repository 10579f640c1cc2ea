-- `leg_drawing::leg::leg_geometry` meets its contract.
use borrow.Author.Rules.{rules}
use native.Mathlib.Omega.{arith}
use mathlib.Core.Path.{refl, ◌∙◌, sym}
use Rattle.tables.specs.Pools.{pools_of}
use Rattle.tables.specs.Bounds.{chart_bounds}
use Rattle.lookup_rules.proofs.Parts.{row_ids_good}
use Rattle.geometry_checks.proofs.Operations.{leg_holds}
use Rattle.point_columns.proofs.Rooms.{unequal, denied_by}
use Rattle.leg_drawing.proofs.Trips.{asked}
use Rattle.leg_drawing.proofs.leg.leg_geometry.Goals as goal

pub returns-then-sheet : goal.returns-then-sheet
returns-then-sheet c = record { result_value = (unequal _ _ _ _ c.if-sheet.true).0; lat_after = (unequal _ _ _ _ c.if-sheet.true).1.0; lon_after = (unequal _ _ _ _ c.if-sheet.true).1.1; same = (refl, refl) }

pub returns-in_err-check_leg : goal.returns-in_err-check_leg
returns-in_err-check_leg c =
    let d = denied_by _ _ _ _ c.if-sheet.false _ _ c.from_residual.ensures.1 (rw c.chart.ensures at c.in_err-check_leg.ensures) in
    record { result_value = d.0; lat_after = d.1.0; lon_after = d.1.1; same = (refl, refl) }

pub by_key-found-requires : goal.by_key-found-requires
by_key-found-requires c =
    let a = c.args in
    let e = sym (rw c.chart.ensures at c.in_ok-check_leg.ensures) in
    row_ids_good (pools_of a.lent.now) chart_bounds _ _ _
    (leg_holds (pools_of a.lent.now) chart_bounds a.t a.l e).trip_ids (omega arith)

pub draw-requires : goal.draw-requires
draw-requires c = c.if-sheet.false

pub returns : goal.returns
returns c =
    let a = c.args in
    let e = sym (rw c.chart.ensures at c.in_ok-check_leg.ensures) in
    let d = c.draw.ensures in
    let w = asked (pools_of a.lent.now) a.t a.l a.from a.to a.sheet.now.lat.now a.sheet.now.lon.now e
    (c.by_key-found.ensures ∙ rw c.id-asked.ensures) (d.result_value, (d.lat_after, d.lon_after)) in
    record { result_value = w.0; lat_after = w.1.0; lon_after = w.1.1; same = d.same }
