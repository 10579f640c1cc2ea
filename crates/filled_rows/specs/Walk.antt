-- Stops and their rows, taken on the way along the line. Definitions only.
use Rattle.std.specs.Prelude.{ℕ, List, [], ◌∷◌, Option, Some, None}
use Rattle.running_lengths.specs.Length.{length_to}
use Rattle.lengths.specs.declared.line.Point.{Point}
use Rattle.projection.specs.Projection.{passed_of}
use Rattle.projection.specs.declared.cursor.Passed.{Passed}
use Rattle.row_distances.specs.Rows.{filled_by}
use Rattle.row_distances.specs.declared.row.Distance.{Distance}
use Rattle.row_distances.specs.declared.row.Unit.{Unit}
use Rattle.filled_rows.specs.declared.walk.Walked.{Walked}

-- the row of a stop that lies at a vertex, by the length along the line to there; a stop without a vertex leaves it as it is
abbrev pub filled_at : List Point → Unit → Option ℕ → Distance → Distance
filled_at line unit (Some v) row = filled_by unit (length_to line v) row
filled_at line unit None row = row

abbrev walked : List Point → Unit → Passed → Distance → Walked
walked line unit p row = record { at = p.cursor.at; sum = length_to line p.cursor.at; row = filled_at line unit p.vertex row }

-- where the cursor is after a stop, the length to there, and the stop's row
unfoldable pub walked_of : List Point → Unit → ℕ → Option Point → Distance → Walked
walked_of line unit at stop row = walked line unit (passed_of line (record { at = at }) stop) row

-- each row by its stop's vertex
unfoldable pub fill_all : List Point → Unit → List (Option ℕ) → List Distance → List Distance
fill_all line unit [] rows = rows
fill_all line unit (f ∷ fs) [] = []
fill_all line unit (f ∷ fs) (row ∷ rows) = filled_at line unit f row ∷ fill_all line unit fs rows
