-- The route from a stop to the next. Definitions only.
use Rattle.std.specs.Prelude.{Bool, ◌&&◌, ◌||◌, cond, List, ltb, Float, Option, Some, None}
use Rattle.std.specs.Float.{binary64}
use Rattle.std.specs.Float.Ieee.{mul, lt}
use Rattle.floats.specs.Number.{one}
use Rattle.ieee.specs.Number.{max_of}
use Rattle.maths.specs.Series.{whole}
use Rattle.lengths.specs.Line.{metres_of}
use Rattle.lengths.specs.declared.line.Point.{Point}
use Rattle.line_parts.specs.declared.part.Part.{Part}
use Rattle.ways.specs.declared.way.Way.{Way}
use Rattle.ways.specs.declared.way.Way.TheVariants.{With, Against}
use Rattle.nearest.specs.Nearest.{nearest_of}
use Rattle.routes.specs.Route.{route_of}
use Rattle.stop_routes.specs.declared.between.Routed.{Routed}

-- over four times the straight line, which counts as a metre at least, and over 500 metres
unfoldable pub roundabout : Float → Point → Point → Bool
roundabout total prev next = lt (mul binary64 (max_of (metres_of prev next) one) (whole 4)) total && lt (whole 500) total

-- the route over a part, unless it is under a metre or roundabout
unfoldable pub routed_of : List Point → Part → Way → Point → Point → Option Routed
routed_of line part way prev next =
    let route = route_of line part in
    cond (lt route.total one || roundabout route.total prev next) None (Some (record { route = route; way = way }))

-- from a stop to the next: over the part between their nearest vertices, sailed against it where the next stop's is the lower
unfoldable pub route_between : List Point → Point → Point → Option Routed
route_between line prev next =
    let i₀ = nearest_of line prev in
    let i₁ = nearest_of line next in
    cond (ltb i₀ i₁) (routed_of line (record { first = i₀; last = i₁ }) With prev next)
    (cond (ltb i₁ i₀) (routed_of line (record { first = i₁; last = i₀ }) Against prev next) None)
