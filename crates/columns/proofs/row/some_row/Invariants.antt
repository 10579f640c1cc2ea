use Rattle.std.proofs.Common.{false, ◌<◌, ℕ}
use Rattle.columns.proofs.row.some_row.Given as goal

abbrev pub invariant-loop-k : goal.invariant-loop-k
invariant-loop-k g l = (k : ℕ) → k < l.k → goal.F-post g l.at_fault k false
