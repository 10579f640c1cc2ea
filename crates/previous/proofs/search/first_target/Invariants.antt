-- no row so far passes
use Rattle.std.proofs.Common.{◌≡◌, ℕ, ◌<◌, false}
use Rattle.row_tests.specs.Rows.{after, placed_target}
use Rattle.previous.proofs.search.first_target.Given as goal

abbrev pub invariant-loop-k : goal.invariant-loop-k
invariant-loop-k l = (j : ℕ) → j < l.k → after (placed_target l.lent.bytes.now l.lent.words.now l.times l.stops l.sequence l.stop) l.from j ≡ false
