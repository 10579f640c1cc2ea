-- `text_runs::byte::first_of` meets its contract. The loop's invariant: no byte so far is the one.
use Prim.Native.Nat.{◌<◌, ℕ}
use mathlib.Core.Bool.{false}
use mathlib.Core.Path.{◌≡◌}
use Rattle.text_runs.specs.Runs.{byte_is}
use Rattle.text_runs.proofs.byte.first_of.Given as goal

abbrev pub invariant-loop-k : goal.invariant-loop-k
invariant-loop-k l = (j : ℕ) → j < l.k → byte_is l.s l.byte j ≡ false
