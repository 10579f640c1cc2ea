-- A part of a line with its length, and where it is at a fraction of that. Definitions only.
use Rattle.stretches.specs.declared.drawing.Drawn.{Drawn}
use Rattle.std.specs.Prelude.{cond, List, ltb, Float, length, Option, Some, None}
use Rattle.std.specs.Float.{binary64}
use Rattle.std.specs.Float.Ieee.{mul, div, lt, le}
use Rattle.floats.specs.Number.{nought, one}
use Rattle.maths.specs.Series.{whole}
use Rattle.lengths.specs.declared.line.Point.{Point}
use Rattle.line_parts.specs.Part.{part_length, whole_of}
use Rattle.first_stretch.specs.Search.{stretch_at}
use Rattle.stretches.specs.Drawing.{draw_of}
use Rattle.line_parts.specs.declared.part.Part.{Part}
use Rattle.stretches.specs.declared.spot.Spot.{Spot}
use Rattle.stretches.specs.declared.spot.Spot.TheVariants.{First, Straight, NoStretch}
use Rattle.routes.specs.declared.route.Route.{Route}

-- 1e-9
unfoldable pub nano : Float
nano = div binary64 one (whole 1000000000)

-- a part with its length
unfoldable pub route_of : List Point → Part → Route
route_of line part = record { part = part; total = part_length line part }

-- where it is at a fraction between 0 and 1: under a metre in all it is one straight stretch
unfoldable pub inside_of : List Point → Route → Float → Spot
inside_of line route f = cond (lt route.total one) (Straight f) (stretch_at line route.part nano (mul binary64 route.total f))

-- where it is at any fraction, in the order of the vertices; a part of one vertex is all at the first
unfoldable pub along_of : List Point → Route → Float → Spot
along_of line route f =
    cond (ltb route.part.first route.part.last) (cond (le f nought) First (cond (le one f) NoStretch (inside_of line route f))) First

-- the position on a whole line, which has none only where it has no vertex
unfoldable pub along_vertices : List Point → Float → Option Drawn
along_vertices line frac =
    cond (ltb (length line) 1) None (Some (draw_of line (whole_of line) (along_of line (route_of line (whole_of line)) frac)))
