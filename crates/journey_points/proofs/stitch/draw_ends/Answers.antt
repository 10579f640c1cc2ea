-- `journey_points::stitch::draw_ends` meets its contract.
use borrow.Author.Rules.{rules}
use native.Mathlib.Omega.{arith}
use mathlib.Core.Path.{◌∙◌}
use Rattle.journey_points.specs.Journey.{end_at}
use Rattle.journey_points.proofs.Stitching.{both, first_few}
use Rattle.journey_points.proofs.stitch.draw_ends.Goals as goal

pub draw_one-requires : goal.draw_one-requires
draw_one-requires c = omega (arith, first_few _ _ c.draw_one-s1.ensures.sheet_after, c.requires)

pub returns : goal.returns
returns c =
    let a = c.args in
    let p = c.draw_one-s1.ensures.same in
    let q = c.draw_one.ensures.same in
    record {
      sheet_after = both _ (end_at a.lent.now.bytes.now a.lent.now.reals.now a.j.start a.j.started a.leg) (end_at a.lent.now.bytes.now a.lent.now.reals.now a.j.end a.j.ended a.leg)
          (c.draw_one-s1.ensures.sheet_after ∙ rw c.end_at.ensures) (c.draw_one.ensures.sheet_after ∙ rw c.end_at-2.ensures);
      same = (q.0 ∙ p.0, q.1 ∙ p.1);
    }
