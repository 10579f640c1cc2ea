-- The row of the static stop before a call. Definitions only.
use Rattle.std.specs.Prelude.{ℕ, ◌+◌, ◌-◌, List, Option, Some, None}
use Rattle.ids.specs.First.{or_else}
use Rattle.ids.specs.Pool.{cell_of}
use Rattle.tables.specs.declared.lent.StopTimes.{StopTimes}
use Rattle.tables.specs.declared.lent.Stops.{Stops}
use Rattle.tables.specs.declared.lent.Trips.{Trips}
use Rattle.row_tests.specs.Rows.{first_row, last_row, is_placed, placed_target, is_from}

-- the row found, or else this one
abbrev pub or_row : Option ℕ → ℕ → ℕ
or_row (Some row) end = row
or_row None end = end

-- Of n rows from `from` on: the first that is the call, and positioned; or else the first from the call's sequence on; or else the row after the last.
unfoldable pub limit_row : List ℕ → List ℕ → StopTimes → Stops → ℕ → ℕ → ℕ → ℕ → ℕ
limit_row bytes words times stops sequence stop from n =
    or_row (or_else (first_row (placed_target bytes words times stops sequence stop) from n) (first_row (is_from words times sequence) from n)) (from + n)

-- the last positioned row before that
unfoldable pub row_before : List ℕ → List ℕ → StopTimes → Stops → ℕ → ℕ → ℕ → ℕ → Option ℕ
row_before bytes words times stops sequence stop from n =
    last_row (is_placed bytes words times stops) from (limit_row bytes words times stops sequence stop from n - from)

-- among the rows of the trip, if there is one
abbrev pub prev_row : List ℕ → List ℕ → Trips → StopTimes → Stops → Option ℕ → ℕ → ℕ → Option ℕ
prev_row bytes words trips times stops (Some trip) sequence stop =
    row_before bytes words times stops sequence stop (cell_of words trips.first trip) (cell_of words trips.count trip)
prev_row bytes words trips times stops None sequence stop = None
