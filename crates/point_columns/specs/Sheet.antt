-- A drawing as it goes: both columns, the last point drawn, and the row of the next. Definitions only.
use Rattle.std.specs.Prelude.{ℕ, Bool, Float, Option}
use mathlib.Core.List.{List, foldl}
use Rattle.lengths.specs.declared.line.Point.{Point}
use Rattle.point_columns.specs.Drawn.{next_of, later_of, lat_put, lon_put, row_after}

pub record Sheet : Type 0 where
  pub lat : List Float
  pub lon : List Float
  pub last : Option Point
  pub at : ℕ

abbrev pub sheet : List Float → List Float → Option Point → ℕ → Sheet
sheet lat lon last at = record { lat = lat; lon = lon; last = last; at = at }

-- with a position more
unfoldable pub draw_one : (Point → Point → Bool) → Sheet → Option Point → Sheet
draw_one differ s stop =
    let drawn = next_of differ s.last stop in
    sheet (lat_put s.lat s.at drawn) (lon_put s.lon s.at drawn) (later_of s.last drawn) (row_after drawn s.at)

-- with positions in turn
unfoldable pub draw_all : (Point → Point → Bool) → Sheet → List (Option Point) → Sheet
draw_all differ s stops = foldl (draw_one differ) s stops
