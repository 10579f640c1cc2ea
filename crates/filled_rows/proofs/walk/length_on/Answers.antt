use Rattle.std.proofs.Common.{sym, arith}
use Rattle.running_lengths.proofs.Running.{next_length}
use Rattle.filled_rows.proofs.walk.length_on.Goals as goal

pub loop-k-preserved : goal.loop-k-preserved
loop-k-preserved c = rw (c.metres-m.ensures, c.vertex-in-loop-k.ensures, c.vertex.ensures, c.loop-k.invariant) (sym (next_length _ c.loop-k.k (omega arith)))
