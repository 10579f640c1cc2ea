-- The seconds that a trip's schedule has between two sequences. Definitions only.
use Rattle.std.specs.Prelude.{ℕ, ◌-◌, max, List, Option, Some, None}
use Rattle.ids.specs.Pool.{cell_of}
use Rattle.tables.specs.declared.lent.StopTimes.{StopTimes}
use Rattle.tables.specs.declared.lent.Trips.{Trips}
use Rattle.row_tests.specs.Rows.{last_row, has_sequence}

-- the departure of a row, or 0
abbrev pub departure_of : List ℕ → StopTimes → Option ℕ → ℕ
departure_of words times (Some row) = cell_of words times.departure row
departure_of words times None = 0

-- from the one row's departure to the other's arrival, 30 at least; 120 where there is no arrival
abbrev pub run_between : List ℕ → StopTimes → Option ℕ → Option ℕ → ℕ
run_between words times (Some row) departs = max (cell_of words times.arrival row - departure_of words times departs) 30
run_between words times None departs = 120

-- of n rows from `first` on, between the last with the one sequence and the last with the other
unfoldable pub run_among : List ℕ → StopTimes → ℕ → ℕ → ℕ → ℕ → ℕ
run_among words times from to first n = run_between words times (last_row (has_sequence words times to) first n) (last_row (has_sequence words times from) first n)

-- among the rows of the trip; 120 where there is none
abbrev pub run_of : List ℕ → Trips → StopTimes → Option ℕ → ℕ → ℕ → ℕ
run_of words trips times (Some trip) from to = run_among words times from to (cell_of words trips.first trip) (cell_of words trips.count trip)
run_of words trips times None from to = 120
