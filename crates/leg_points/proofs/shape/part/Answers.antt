-- `leg_points::shape::part` meets its contract.
use borrow.Author.Rules.{rules}
use native.Mathlib.Omega.{arith}
use mathlib.Core.Path.{◌∙◌, sym}
use Rattle.leg_points.proofs.Between.{no_rows, no_board, no_alight, between}
use Rattle.leg_parts.proofs.Offsets.{in_order, of_trip}
use Rattle.leg_points.proofs.shape.part.Goals as goal

pub returns-then-leg-eq0 : goal.returns-then-leg-eq0
returns-then-leg-eq0 c = c.whole.ensures ∙ no_rows _ _ _ _ _ c.if-leg-eq0.true

pub returns-in_default : goal.returns-in_default
returns-in_default c =
    let e = c.leg_ends-ends.ensures in
    let n = c.if-leg-eq0.false in
    c.whole-in_default.ensures ∙ rw (← e) (no_board _ _ _ _ _ (in_order _ _ _ e) (of_trip _ _ _ e (omega (arith, n))) (sym c.row_position.ensures ∙ c.in_default.is))

pub returns-in_default-row_position : goal.returns-in_default-row_position
returns-in_default-row_position c =
    let e = c.leg_ends-ends.ensures in
    let n = c.if-leg-eq0.false in
    c.whole-in_default-row_position.ensures ∙ rw (← e) (no_alight _ _ _ _ _ (in_order _ _ _ e) (of_trip _ _ _ e (omega (arith, n))) (sym c.row_position-2.ensures ∙ c.in_default-row_position.is))

pub overflow_add-skip : goal.overflow_add-skip
overflow_add-skip c =
    let e = c.leg_ends-ends.ensures in
    record { fits = omega (arith, in_order _ _ _ e, of_trip _ _ _ e (omega (arith, c.if-leg-eq0.false))) }

pub overflow_sub-left : goal.overflow_sub-left
overflow_sub-left c = in_order _ _ _ c.leg_ends-ends.ensures

pub returns : goal.returns
returns c =
    let e = c.leg_ends-ends.ensures in
    let n = c.if-leg-eq0.false in
    c.between.ensures
    ∙ rw (← e)
    (between _ _ _ _ _ (in_order _ _ _ e) (of_trip _ _ _ e (omega (arith, n))) (sym c.row_position.ensures ∙ c.in-Some.is) (sym c.row_position-2.ensures ∙ c.in-Some-row_position.is)
    c.run-i.ensures c.run-j.ensures)
