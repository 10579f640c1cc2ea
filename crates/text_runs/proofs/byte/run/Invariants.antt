-- `text_runs::byte::run` meets its contract. The loop's invariant: no byte so far is of another kind.
use Prim.Native.Nat.{◌<◌, ℕ}
use mathlib.Core.Bool.{false}
use mathlib.Core.Path.{◌≡◌}
use Rattle.ids.specs.Bytes.{is_of}
use Rattle.text_runs.specs.Runs.{fails_at}
use Rattle.text_runs.proofs.byte.run.Given as goal

abbrev pub invariant-loop-k : goal.invariant-loop-k
invariant-loop-k l = (j : ℕ) → j < l.k → fails_at (is_of l.kind) l.s j ≡ false
