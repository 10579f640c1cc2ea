-- `journeys::journey::journey_geometry` meets its contract.
use borrow.Author.Rules.{rules}
use mathlib.Core.Path.{refl, sym}
use Rattle.point_columns.proofs.Rooms.{unequal, denied_by}
use Rattle.journeys.proofs.journey.journey_geometry.Goals as goal

pub returns-then-sheet : goal.returns-then-sheet
returns-then-sheet c = record { result_value = (unequal _ _ _ _ c.if-sheet.true).0; lat_after = (unequal _ _ _ _ c.if-sheet.true).1.0; lon_after = (unequal _ _ _ _ c.if-sheet.true).1.1; same = (refl, refl) }

pub returns-in_err-check_journey : goal.returns-in_err-check_journey
returns-in_err-check_journey c =
    let d = denied_by _ _ _ _ c.if-sheet.false _ _ c.from_residual.ensures.1 (rw c.chart.ensures at c.in_err-check_journey.ensures) in
    record { result_value = d.0; lat_after = d.1.0; lon_after = d.1.1; same = (refl, refl) }

pub returns : goal.returns
returns c =
    let e = sym (rw c.chart.ensures at c.in_ok-check_journey.ensures) in
    rw e (record { result_value = c.draw.ensures.result_value; lat_after = c.draw.ensures.lat_after; lon_after = c.draw.ensures.lon_after; same = c.draw.ensures.same })
