-- no row so far is a sample
use Rattle.std.proofs.Common.{◌≡◌, ℕ, ◌<◌, false}
use Rattle.sample_rows.specs.Samples.{sample_from}
use Rattle.sample_rows.proofs.rows.first_sample.Given as goal

abbrev pub invariant-loop-k : goal.invariant-loop-k
invariant-loop-k l = (j : ℕ) → j < l.k → sample_from l.lent.bytes.now l.lent.words.now l.c l.from j ≡ false
