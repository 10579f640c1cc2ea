-- What geometry reads of the lent tables: where the stop of a row is, and the line of a trip's shape.
use Rattle.std.specs.Prelude.{ℕ, ◌+◌, cond, List, eqb, Float, get_or, Option, Some, None}
use Rattle.std.specs.Float.{nan}
use Rattle.ids.specs.Pool.{cell_of}
use Rattle.ids.specs.declared.pool.Span.{Span}
use Rattle.columns.specs.Rows.{bit_of}
use Rattle.tables.specs.Pools.{part_of}
use Rattle.tables.specs.declared.lent.Points.{Points}
use Rattle.tables.specs.declared.lent.Shapes.{Shapes}
use Rattle.tables.specs.declared.lent.StopTimes.{StopTimes}
use Rattle.tables.specs.declared.lent.Stops.{Stops}
use Rattle.tables.specs.declared.lent.Trips.{Trips}
use Rattle.lengths.specs.Line.{line_of}
use Rattle.lengths.specs.declared.line.Point.{Point}

-- row k of a column of reals
abbrev pub real_of : List Float → Span → ℕ → Float
real_of reals s k = get_or reals (s.at + k) nan

-- where a stop's columns say that it is
unfoldable pub stop_point : List Float → Stops → ℕ → Point
stop_point reals s stop = record { lat = real_of reals s.lat stop; lon = real_of reals s.lon stop }

-- where a stop is
unfoldable pub stop_position : List ℕ → List Float → Stops → ℕ → Option Point
stop_position bytes reals s stop = cond (eqb (bit_of bytes s.positioned stop) 0) None (Some (stop_point reals s stop))

-- where the stop of a row of the stop times is
unfoldable pub row_position : List ℕ → List ℕ → List Float → Stops → StopTimes → ℕ → Option Point
row_position bytes words reals s c row = stop_position bytes reals s (cell_of words c.stop row)

-- the points of a shape, counted from the first of all
unfoldable pub shape_span : List ℕ → Shapes → ℕ → Span
shape_span words s shape = record { at = cell_of words s.first shape; n = cell_of words s.count shape }

-- the points of a trip's shape; none where it has no shape
unfoldable pub trip_span : List ℕ → List ℕ → Trips → Shapes → ℕ → Span
trip_span bytes words t s trip =
    cond (eqb (bit_of bytes t.shaped trip) 0) (record { at = 0; n = 0 }) (shape_span words s (cell_of words t.shape trip))

-- their latitudes or longitudes, of the column of all points
unfoldable pub shape_column : List Float → Span → Span → List Float
shape_column reals column points = part_of (part_of reals column) points

-- the line of a trip's shape
unfoldable pub trip_line : List ℕ → List ℕ → List Float → Trips → Shapes → Points → ℕ → List Point
trip_line bytes words reals t s p trip =
    let points = trip_span bytes words t s trip in line_of (shape_column reals p.lat points) (shape_column reals p.lon points)
