-- `timeline::turn::leg_at` meets its contract. The loop's invariant: the clock is between no call so far and the next.
use Prim.Native.Nat.{◌<◌, ℕ}
use mathlib.Core.Bool.{false}
use mathlib.Core.Path.{◌≡◌}
use Rattle.timeline.specs.Turn.{under_way}
use Rattle.timeline.proofs.turn.leg_at.Given as goal

abbrev pub invariant-loop-k : goal.invariant-loop-k
invariant-loop-k l = (j : ℕ) → j < l.k → under_way l.clock l.arrivals l.departures j ≡ false
