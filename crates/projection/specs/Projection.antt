-- The projection of a trip's stops, one after the other, with the cursor handed on. Definitions only.
use Rattle.std.specs.Prelude.{Option, Some, None, ℕ}
use mathlib.Core.List.{List, [], ◌∷◌, foldl}
use Rattle.lengths.specs.declared.line.Point.{Point}
use Rattle.near_vertex.specs.Forward.{forward_shape_index}
use Rattle.projection.specs.declared.cursor.Cursor.{Cursor}
use Rattle.projection.specs.declared.cursor.Step.{Step}
use Rattle.projection.specs.declared.cursor.Passed.{Passed}

-- before the first stop
abbrev pub at_start : Cursor
at_start = record { at = 0 }

-- a stop at a point: its vertex is the next cursor's
unfoldable pub step_of : List Point → Cursor → Point → Step
step_of line c stop = let k = forward_shape_index line c.at stop in record { cursor = record { at = k }; vertex = k }

-- any stop: one without a position gets none and does not move the cursor
abbrev pub passed_of : List Point → Cursor → Option Point → Passed
passed_of line c (Some stop) = let s = step_of line c stop in record { cursor = s.cursor; vertex = Some s.vertex }
passed_of line c None = record { cursor = c; vertex = None }

-- the cursor after each of the stops in turn
unfoldable pub cursor_after : List Point → Cursor → List (Option Point) → Cursor
cursor_after line c stops = foldl (λ (d : Cursor) (s : Option Point). (passed_of line d s).cursor) c stops

-- the stops' vertices, from a cursor on
unfoldable pub projection_from : List Point → Cursor → List (Option Point) → List (Option ℕ)
projection_from line c [] = []
projection_from line c (s ∷ stops) = let p = passed_of line c s in p.vertex ∷ projection_from line p.cursor stops

-- a trip's
abbrev pub projection_of : List Point → List (Option Point) → List (Option ℕ)
projection_of line stops = projection_from line at_start stops
