-- Which call or leg the clock falls to. `arrs` and `deps` are the calls' arrivals and departures, in order; calls are counted from 0. Definitions only.
use Rattle.std.specs.Prelude.{ℕ, ◌+◌, ◌-◌, Bool, ◌&&◌, cond, List, leb, ltb, length, get_or, Option, Some, None}
use Rattle.ids.specs.First.{first}
use Rattle.timeline.specs.declared.turn.Turn.{Turn}
use Rattle.timeline.specs.declared.turn.Turn.TheVariants.{At, Between, Towards, After}

-- moment k of a column
abbrev pub time_at : List ℕ → ℕ → ℕ
time_at column k = get_or column k 0

-- the clock is between two moments, both included
unfoldable pub during : ℕ → ℕ → ℕ → Bool
during clock from to = leb from clock && leb clock to

-- the clock is between call k's arrival and its departure
abbrev pub alongside : ℕ → List ℕ → List ℕ → ℕ → Bool
alongside clock arrs deps k = during clock (time_at arrs k) (time_at deps k)

-- the clock is between call k's departure and the next call's arrival
abbrev pub under_way : ℕ → List ℕ → List ℕ → ℕ → Bool
under_way clock arrs deps k = during clock (time_at deps k) (time_at arrs (k + 1))

-- before the first call, or after the last; a single call is always sailed to
unfoldable pub edge_of : ℕ → List ℕ → Turn
edge_of clock arrs = cond (ltb (length arrs) 2) Towards (cond (ltb clock (time_at arrs 0)) Towards After)

-- a call comes before a leg, and a leg before the rest
abbrev pub turn_from : Option ℕ → Option ℕ → Turn → Turn
turn_from (Some k) leg rest = At k
turn_from None (Some k) rest = Between k
turn_from None None rest = rest

unfoldable pub turn_of : ℕ → List ℕ → List ℕ → Turn
turn_of clock arrs deps =
    turn_from (first (alongside clock arrs deps) (length arrs)) (first (under_way clock arrs deps) (length arrs - 1)) (edge_of clock arrs)
