-- The points that are drawn of positions one after another. Definitions only.
use Rattle.std.specs.Prelude.{ℕ, suc, Bool, cond, List, [], ◌∷◌, map, Float, set, Option, Some, None}
use Rattle.lengths.specs.declared.line.Point.{Point}

-- What is drawn of a position after the last point drawn: the first point always, any other where the two differ in the sense of `differ`; nothing where there is no
-- position.
abbrev pub next_of : (Point → Point → Bool) → Option Point → Option Point → Option Point
next_of differ last None = None
next_of differ None (Some p) = Some p
next_of differ (Some q) (Some p) = cond (differ q p) (Some p) None

-- the last point drawn, with one more if there is one
abbrev pub later_of : Option Point → Option Point → Option Point
later_of last (Some p) = Some p
later_of last None = last

-- a point, if there is one, before others
abbrev pub before : Option Point → List Point → List Point
before (Some p) ps = p ∷ ps
before None ps = ps

-- the points drawn of positions in turn, after the last point drawn
unfoldable pub drawn_from : (Point → Point → Bool) → Option Point → List (Option Point) → List Point
drawn_from differ last [] = []
drawn_from differ last (s ∷ stops) = let drawn = next_of differ last s in before drawn (drawn_from differ (later_of last drawn) stops)

-- points' latitudes and longitudes
abbrev pub lats_of : List Point → List Float
lats_of points = map (λ (p : Point). p.lat) points

abbrev pub lons_of : List Point → List Float
lons_of points = map (λ (p : Point). p.lon) points

-- a point, if there is one, in row k of both columns; a row that a column has not is not set
abbrev pub lat_put : List Float → ℕ → Option Point → List Float
lat_put lat k (Some p) = set lat k p.lat
lat_put lat k None = lat

abbrev pub lon_put : List Float → ℕ → Option Point → List Float
lon_put lon k (Some p) = set lon k p.lon
lon_put lon k None = lon

-- and the row of the next
abbrev pub row_after : Option Point → ℕ → ℕ
row_after (Some p) k = suc k
row_after None k = k
