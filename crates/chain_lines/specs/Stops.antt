-- The stops of rows between two sequences. Definitions only.
use Rattle.std.specs.Prelude.{ℕ, zero, suc, ◌+◌, Bool, ◌&&◌, cond, List, [], ◌∷◌, ◌++◌, leb, Float, Option, Some, None}
use Rattle.ids.specs.Pool.{cell_of}
use Rattle.tables.specs.declared.lent.StopTimes.{StopTimes}
use Rattle.tables.specs.declared.lent.Stops.{Stops}
use Rattle.lengths.specs.Line.{nowhere}
use Rattle.lengths.specs.declared.line.Point.{Point}
use Rattle.trip_rows.specs.Rows.{row_position}

-- a row's sequence is from lo to hi
unfoldable pub is_between : List ℕ → StopTimes → ℕ → ℕ → ℕ → Bool
is_between words c lo hi row = leb lo (cell_of words c.sequence row) && leb (cell_of words c.sequence row) hi

-- where its stop is, if that is so
unfoldable pub stop_between : List ℕ → List ℕ → List Float → Stops → StopTimes → ℕ → ℕ → ℕ → Option Point
stop_between bytes words reals s c lo hi row = cond (is_between words c lo hi row) (row_position bytes words reals s c row) None

-- the point of a position
abbrev pub point_or : Option Point → Point
point_or (Some p) = p
point_or None = nowhere

-- as a list, which is empty where the position is missing
abbrev pub points_of : Option Point → List Point
points_of (Some p) = p ∷ []
points_of None = []

-- the points of the first n of some positions, in order
unfoldable pub points_below : (ℕ → Option Point) → ℕ → List Point
points_below stop zero = []
points_below stop (suc n) = points_below stop n ++ points_of (stop n)
