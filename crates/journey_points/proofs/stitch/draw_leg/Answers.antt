-- `journey_points::stitch::draw_leg` meets its contract.
use borrow.Author.Rules.{rules}
use native.Mathlib.Omega.{arith}
use mathlib.Core.Path.{◌∙◌, sym}
use Rattle.journey_points.proofs.Stitching.{rows_on, two_on, transit, short_walk, long_walk}
use Rattle.journey_points.proofs.stitch.draw_leg.Goals as goal

pub draw_points-requires : goal.draw_points-requires
draw_points-requires c = omega (arith, c.cell-n.type_inv, c.requires)

pub returns-then-bit-eq0 : goal.returns-then-bit-eq0
returns-then-bit-eq0 c =
    let e = c.draw_points.ensures.sheet_after in
    let own = transit c.args.lent.now.bytes.now c.args.lent.now.words.now c.args.lent.now.reals.now c.args.j c.args.leg (sym c.bit.ensures ∙ c.if-bit-eq0.true) in record { sheet_after = e ∙ rw (← own, c.cell-first.ensures, c.cell-n.ensures); at_bound = omega (arith, rows_on _ _ _ _ e, c.cell-n.type_inv); same = c.draw_points.ensures.same }

pub returns-then-n-lt2 : goal.returns-then-n-lt2
returns-then-n-lt2 c =
    let e = c.draw_ends.ensures.sheet_after in
    let ends = short_walk c.args.lent.now.bytes.now c.args.lent.now.words.now c.args.lent.now.reals.now c.args.j c.args.leg (λ z. c.if-bit-eq0.false (c.bit.ensures ∙ z)) (rw c.cell-n.ensures at c.if-n-lt2.true) in record { sheet_after = e ∙ rw (← ends); at_bound = omega (arith, two_on _ _ _ e); same = c.draw_ends.ensures.same }

pub draw_points-requires-else-n-lt2 : goal.draw_points-requires-else-n-lt2
draw_points-requires-else-n-lt2 c = omega (arith, c.cell-n.type_inv, c.requires)

pub returns-else-n-lt2 : goal.returns-else-n-lt2
returns-else-n-lt2 c =
    let e = c.draw_points-else-n-lt2.ensures.sheet_after in
    let own = long_walk c.args.lent.now.bytes.now c.args.lent.now.words.now c.args.lent.now.reals.now c.args.j c.args.leg (λ z. c.if-bit-eq0.false (c.bit.ensures ∙ z)) (rw c.cell-n.ensures at c.if-n-lt2.false) in record { sheet_after = e ∙ rw (← own, c.cell-first.ensures, c.cell-n.ensures); at_bound = omega (arith, rows_on _ _ _ _ e, c.cell-n.type_inv); same = c.draw_points-else-n-lt2.ensures.same }
