-- `timeline::turn::call_at` meets its contract. The loop's invariant: the clock is alongside of no call so far.
use Prim.Native.Nat.{◌<◌, ℕ}
use mathlib.Core.Bool.{false}
use mathlib.Core.Path.{◌≡◌}
use Rattle.timeline.specs.Turn.{alongside}
use Rattle.timeline.proofs.turn.call_at.Given as goal

abbrev pub invariant-loop-k : goal.invariant-loop-k
invariant-loop-k l = (j : ℕ) → j < l.k → alongside l.clock l.arrivals l.departures j ≡ false
