use Rattle.std.proofs.Common.{sym, ◌∙◌}
use Rattle.std.specs.Float.Ieee.{of_bits}
use Rattle.line_parts.proofs.Sums.{no_sum}
use Rattle.first_stretch.proofs.Turns.{met_of_all, over, summed, found, passed}
use Rattle.first_stretch.proofs.search.stretch_at.Goals as goal

pub loop-k-init : goal.loop-k-init
unfolding of_bits
loop-k-init c = record { sum = sym (no_sum _ c.args.part.first); met = met_of_all _ c.args.part _ _ }

pub returns-then-met : goal.returns-then-met
returns-then-met c =
    let l = c.loop-k in
    found _ c.args.part _ _ l.k l.auto.k c.loop-k-test.true l.invariant.sum c.stretch_length.ensures c.met.ensures l.invariant.met c.if-met.true c.fraction.ensures

pub loop-k-preserved : goal.loop-k-preserved
loop-k-preserved c =
    let l = c.loop-k in
    record {
      sum = summed _ c.args.part _ _ l.k l.auto.k c.loop-k-test.true l.invariant.sum c.stretch_length.ensures c.met.ensures l.invariant.met;
      met = passed _ c.args.part _ _ l.k l.auto.k c.loop-k-test.true l.invariant.sum c.stretch_length.ensures c.met.ensures l.invariant.met c.if-met.false;
    }

pub returns : goal.returns
returns c = sym (c.loop-k.invariant.met ∙ over _ c.args.part _ _ c.loop-k.k c.loop-k-test.false)
