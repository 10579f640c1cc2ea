-- The distance that the timetable has for a sequence. Definitions only.
use Rattle.std.specs.Prelude.{ℕ, ◌+◌, Bool, cond, List, eqb, Float, Option, Some, None}
use Rattle.ids.specs.First.{first}
use Rattle.ids.specs.Pool.{cell_of}
use Rattle.ids.specs.declared.pool.Span.{Span}
use Rattle.trip_rows.specs.Rows.{real_of}
use Rattle.courses.specs.Course.{is_flagged, row_after}
use Rattle.courses.specs.declared.course.Course.{Course}

-- row k after `from` of a column of sequences has this one
abbrev pub has_sequence : List ℕ → Span → ℕ → ℕ → ℕ → Bool
has_sequence words column from sequence k = eqb (cell_of words column (from + k)) sequence

-- the distance of a row that is found, if it has one
abbrev pub row_dist : List ℕ → List Float → Course → Option ℕ → Option Float
row_dist bytes dists c (Some row) = cond (is_flagged bytes c.times.measured row) (Some (real_of dists c.times.dist row)) None
row_dist bytes dists c None = None

-- of a trip's first row with a sequence: where that has none, no later row is looked at
unfoldable pub seq_dist : List ℕ → List ℕ → List Float → Course → ℕ → ℕ → Option Float
seq_dist bytes words dists c trip sequence =
    let from = cell_of words c.trips.first trip in
    row_dist bytes dists c (row_after from (first (has_sequence words c.times.sequence from sequence) (cell_of words c.trips.count trip)))
