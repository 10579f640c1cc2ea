-- The vertex of a line that a stop lies at. Definitions only.
use Rattle.std.specs.Prelude.{ℕ, ◌-◌, min, List, Float, length, drop, Option, Some, None}
use Rattle.std.specs.Float.{binary64}
use Rattle.std.specs.Float.Ieee.{add}
use Rattle.lengths.specs.declared.line.Point.{Point}
use Rattle.vertices_within.specs.Near.{distances_of, least_in, first_within, last_within}
use Rattle.distance_sweep.specs.Nearest.{slack}

-- the vertex that a search from `from` begins at: brought down to the last
unfoldable pub start_of : List Point → ℕ → ℕ
start_of line from = min from (length line - 1)

-- the vertex found, or else the other
abbrev pub or_vertex : Option ℕ → ℕ → ℕ
or_vertex (Some k) other = k
or_vertex None other = other

-- of the vertices from `at` on, the one that `pick` takes of those within the slack of the least distance
abbrev pub near_of : (Float → ℕ → List Float → Option ℕ) → List Point → ℕ → Point → Option ℕ
near_of pick line at stop =
    let ds = distances_of stop (drop at line) in pick (add binary64 (least_in ds) slack) at ds

-- that, or else `at`
abbrev pub pick_from : (Float → ℕ → List Float → Option ℕ) → List Point → ℕ → Point → ℕ
pick_from pick line at stop = or_vertex (near_of pick line at stop) at

-- the first such vertex from `from` on
unfoldable pub forward_shape_index : List Point → ℕ → Point → ℕ
forward_shape_index line from stop = pick_from first_within line (start_of line from) stop

-- the last
unfoldable pub forward_last_index : List Point → ℕ → Point → ℕ
forward_last_index line from stop = pick_from last_within line (start_of line from) stop
