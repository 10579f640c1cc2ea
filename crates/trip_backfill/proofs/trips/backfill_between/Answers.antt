use borrow.Author.Rules.{rules}
use Prim.Native.Nat.{◌-◌}
use mathlib.Core.Path.{sym, ◌∙◌}
use Rattle.answers.proofs.Told.{handed}
use Rattle.tables.specs.Pools.{pools_of}
use Rattle.trip_backfill.proofs.Rooms.{op_refused, op_given, lent_rows_lem}
use Rattle.trip_backfill.proofs.trips.backfill_between.Goals as goal

pub returns-in_err-check_geometry : goal.returns-in_err-check_geometry
returns-in_err-check_geometry c =
    let a = c.args in
    let w = op_refused (pools_of a.lent.now) a.t a.a (a.e - a.a) a.dist.now a.measured.now _ (rw c.chart.ensures at c.in_err-check_geometry.ensures) in
    record { result_value = handed _ _ c.from_residual.ensures.1 ∙ w.0; dist_after = w.1.0; measured_after = w.1.1 }

pub returns : goal.returns
returns c = let a = c.args in
    let e = sym (rw c.chart.ensures at c.in_ok-check_geometry.ensures) in
    let rows = lent_rows_lem (pools_of a.lent.now) a.t 0 0 a.dist.now a.measured.now c.cut-column.ensures c.cut-flags.ensures in
    let w = op_given (pools_of a.lent.now) a.t a.a (a.e - a.a) a.dist.now a.measured.now e
    (rw rows at c.write.ensures.result_value, (rw rows at c.write.ensures.dist_after, rw rows at c.write.ensures.measured_after)) in
    record { result_value = w.0; dist_after = w.1.0; measured_after = w.1.1 }
