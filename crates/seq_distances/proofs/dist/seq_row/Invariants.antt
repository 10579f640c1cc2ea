-- no row so far has the sequence
use Rattle.std.proofs.Common.{◌≡◌, ℕ, ◌<◌, false}
use Rattle.seq_distances.specs.Dist.{has_sequence}
use Rattle.seq_distances.proofs.dist.seq_row.Given as goal

abbrev pub invariant-loop-k : goal.invariant-loop-k
invariant-loop-k l = (j : ℕ) → j < l.k → has_sequence l.words l.column l.from l.sequence j ≡ false
