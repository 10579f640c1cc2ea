use Rattle.std.proofs.Common.{sym, arith}
use Rattle.std.specs.Float.Ieee.{of_bits}
use Rattle.line_parts.proofs.Sums.{no_sum, sum_next}
use Rattle.line_parts.proofs.part.part_length.Goals as goal

pub loop-k-init : goal.loop-k-init
unfolding of_bits
loop-k-init c = record { within = omega arith; sum = sym (no_sum _ c.args.part.first) }

pub loop-k-preserved : goal.loop-k-preserved
loop-k-preserved c =
    let l = c.loop-k in
    record { within = omega arith; sum = rw (c.stretch_length-sum.ensures, l.invariant.sum) (sym (sum_next _ c.args.part.first l.k l.auto.k)) }
