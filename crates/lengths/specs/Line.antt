-- Points, and the line of two columns. Definitions only.
use Rattle.std.specs.Prelude.{List, [], ◌∷◌, Float}
use Rattle.std.specs.Float.{nan}
use Rattle.sphere_lengths.specs.Length.{haversine_of}
use Rattle.lengths.specs.declared.line.Point.{Point}

-- how far b is from a, in metres
abbrev pub metres_of : Point → Point → Float
metres_of a b = haversine_of a.lat a.lon b.lat b.lon

-- the vertices whose latitudes and longitudes are the columns' rows, as many as both have
unfoldable pub line_of : List Float → List Float → List Point
line_of [] lons = []
line_of (y ∷ lats) [] = []
line_of (y ∷ lats) (x ∷ lons) = record { lat = y; lon = x } ∷ line_of lats lons

-- what a vertex that a line has not reads as
abbrev pub nowhere : Point
nowhere = record { lat = nan; lon = nan }
