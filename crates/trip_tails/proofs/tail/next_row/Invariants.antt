-- `trip_tails::tail::next_row` meets its contract. The loop's invariant: no row so far passes.
use Prim.Native.Nat.{◌<◌, ℕ}
use mathlib.Core.Bool.{false}
use mathlib.Core.Path.{◌≡◌}
use Rattle.trip_tails.specs.Tails.{tail_row}
use Rattle.trip_tails.proofs.tail.next_row.Given as goal

abbrev pub invariant-loop-k : goal.invariant-loop-k
invariant-loop-k l = (j : ℕ) → j < l.k → tail_row l.lent.bytes.now l.lent.words.now l.tripkeys l.tail l.found j ≡ false
