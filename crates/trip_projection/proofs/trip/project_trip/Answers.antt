use borrow.Author.Rules.{rules}
use native.Mathlib.Omega.{arith}
use mathlib.Core.Path.{◌∙◌, sym}
use Rattle.answers.proofs.Told.{handed}
use Rattle.tables.specs.Pools.{pools_of}
use Rattle.tables.specs.Bounds.{chart_bounds}
use Rattle.lookup_rules.proofs.Parts.{row_ids_good}
use Rattle.geometry_checks.proofs.Operations.{leg_holds}
use Rattle.trip_projection.proofs.Refusals.{op_refused, op_given}
use Rattle.trip_projection.proofs.trip.project_trip.Goals as goal

pub returns-in_err-check_leg : goal.returns-in_err-check_leg
returns-in_err-check_leg c =
    let a = c.args in
    let w = op_refused (pools_of a.lent.now) a.t a.l a.out.now _ (rw c.chart.ensures at c.in_err-check_leg.ensures) in
    record { result_value = handed _ _ c.from_residual.ensures.1 ∙ w.0; out_after = w.1 }

pub by_key-found-requires : goal.by_key-found-requires
by_key-found-requires c =
    let a = c.args in
    let e = sym (rw c.chart.ensures at c.in_ok-check_leg.ensures) in
    row_ids_good (pools_of a.lent.now) chart_bounds _ _ _ (leg_holds (pools_of a.lent.now) chart_bounds a.t a.l e).trip_ids (omega arith)

pub returns : goal.returns
returns c =
    let a = c.args in
    let e = sym (rw c.chart.ensures at c.in_ok-check_leg.ensures) in
    let w = op_given (pools_of a.lent.now) a.t a.l a.out.now e (c.by_key-found.ensures ∙ rw c.id-asked.ensures) (c.write.ensures.result_value, c.write.ensures.out_after) in
    record { result_value = w.0; out_after = w.1 }
