-- no row so far passes
use Rattle.std.proofs.Common.{◌≡◌, ℕ, ◌<◌, false}
use Rattle.row_tests.specs.Rows.{after, is_from}
use Rattle.previous.proofs.search.first_from.Given as goal

abbrev pub invariant-loop-k : goal.invariant-loop-k
invariant-loop-k l = (j : ℕ) → j < l.k → after (is_from l.words l.times l.sequence) l.from j ≡ false
