-- The coordinates of a place on a leg. Definitions only.
use Rattle.std.specs.Prelude.{suc, List}
use Rattle.lengths.specs.declared.line.Point.{Point}
use Rattle.line_parts.specs.Part.{at}
use Rattle.stretches.specs.Drawing.{between_of}
use Rattle.stretches.specs.declared.drawing.Drawn.{Drawn}
use Rattle.paths.specs.Path.{leg_line, path_part}
use Rattle.paths.specs.declared.path.Path.{Path}
use Rattle.legs.specs.declared.place.Place.{Place}
use Rattle.legs.specs.declared.place.Place.TheVariants.{Call, Start, End, Stretch, NoStretch}

-- the coordinates of a drawing
abbrev pub coordinates : Drawn → Point
coordinates d = record { lat = d.lat; lon = d.lon }

-- The coordinates of a place on a leg with this path: the stop's own at a call and at the leg's start and end, the Rust's interpolation on a stretch, and the last vertex of the path where no
-- stretch was met. The call is the one that the leg leads to.
abbrev pub position_of : List Point → List Point → Point → Point → Path → Place → Point
position_of shape chain from to path (Call k) = to
position_of shape chain from to path (Start k) = from
position_of shape chain from to path (End k) = to
position_of shape chain from to path (Stretch k kind way v t) = coordinates (between_of (at (leg_line shape chain from to kind) v) (at (leg_line shape chain from to kind) (suc v)) t)
position_of shape chain from to path (NoStretch k kind way) = at (leg_line shape chain from to kind) (path_part shape path).last
