-- The order of turns, and calls whose times do not go back. Definitions only.
use Rattle.std.specs.Prelude.{ℕ, ◌+◌, ◌*◌, ◌<◌, ◌≤◌, List, length}
use Rattle.timeline.specs.Turn.{time_at}
use Rattle.timeline.specs.declared.turn.Turn.{Turn}
use Rattle.timeline.specs.declared.turn.Turn.TheVariants.{At, Between, Towards, After}

-- No call's departure is before its arrival, and no arrival before the departure from the call before it.
pub record Timely (arrs deps : List ℕ) : Type 0 where
  pub calls : (k : ℕ) → k < length arrs → time_at arrs k ≤ time_at deps k
  pub legs : (k : ℕ) → k + 1 < length arrs → time_at deps k ≤ time_at arrs (k + 1)

-- Where a turn stands in a voyage of n calls: with calls and legs counted from 1, call k is 2k, and leg k, which leads to it, 2k - 1.
abbrev pub turn_rank : ℕ → Turn → ℕ
turn_rank n (At k) = 2 * k + 2
turn_rank n (Between k) = 2 * k + 3
turn_rank n Towards = 1
turn_rank n After = 2 * n
