use Rattle.std.proofs.Common.{◌≡◌, suc, ◌+◌, sym, ◌∙◌, subst, arith}
use Rattle.std.specs.Float.Ieee.{of_bits}
use Rattle.line_parts.proofs.Sums.{no_sum}
use Rattle.first_stretch.proofs.Turns.{met_of_all, over, summed, found, passed}
use Rattle.chain_vertices.specs.Vertices.{Stands}
use Rattle.chain_spots.proofs.Turns.{stretch_is}
use Rattle.chain_spots.proofs.passes.stretch_of.Goals as goal

pub loop-k-init : goal.loop-k-init
unfolding of_bits
loop-k-init c = record { stands = c.seek-here.ensures; sum = sym (no_sum _ c.args.part.first); met = met_of_all _ c.args.part _ _ }

pub onward-there-requires : goal.onward-there-requires
onward-there-requires c = c.loop-k.invariant.stands

pub returns-then-met : goal.returns-then-met
returns-then-met c =
    let l = c.loop-k in
    let i = l.invariant in
    let d = stretch_is _ _ _ _ _ _ i.stands c.onward-there.ensures c.metres.ensures in
    found _ c.args.part _ _ l.k l.auto.k c.loop-k-test.true i.sum d c.met.ensures i.met c.if-met.true c.fraction.ensures

pub loop-k-preserved : goal.loop-k-preserved
loop-k-preserved c =
    let l = c.loop-k in
    let i = l.invariant in
    let e : suc l.k ≡ l.k + 1 = omega arith in
    let d = stretch_is _ _ _ _ _ _ i.stands c.onward-there.ensures c.metres.ensures in
    record {
      stands = subst (Stands _ _ _) e c.onward-there.ensures;
      sum = summed _ c.args.part _ _ l.k l.auto.k c.loop-k-test.true i.sum d c.met.ensures i.met;
      met = passed _ c.args.part _ _ l.k l.auto.k c.loop-k-test.true i.sum d c.met.ensures i.met c.if-met.false;
    }

pub returns : goal.returns
returns c = sym (c.loop-k.invariant.met ∙ over _ c.args.part _ _ c.loop-k.k c.loop-k-test.false)
