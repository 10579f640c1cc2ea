-- The walk along a leg's path. Definitions only: `walk_of` of legs on the leg's shape and chain, and what it is on each kind of path.
use Rattle.std.specs.Prelude.{ℕ, List, [], ◌∷◌, Float, Option}
use Rattle.lengths.specs.declared.line.Point.{Point}
use Rattle.line_parts.specs.Part.{whole_of}
use Rattle.stretches.specs.Drawing.{draw_of}
use Rattle.stretches.specs.declared.spot.Spot.TheVariants.{Straight as Spot·straight}
use Rattle.ways.specs.declared.way.Way.{Way}
use Rattle.by_distance.specs.Interpolate.{spot_over}
use Rattle.spans.specs.declared.span.Span.{Span}
use Rattle.routes.specs.Route.{along_of}
use Rattle.routes.specs.declared.route.Route.{Route}
use Rattle.polylines.specs.Polyline.{spot_along}
use Rattle.courses.specs.declared.course.Course.{Course}
use Rattle.chain_stretches.specs.Two.{two}
use Rattle.legs.specs.Walk.{on_path, walk_of}
use Rattle.paths.specs.declared.path.End.{End}
use Rattle.paths.specs.declared.path.Path.{Path}
use Rattle.paths.specs.declared.path.Path.TheVariants.{ByDistance, Polyline, Chain, Straight}
use Rattle.legs.specs.declared.walk.Walked.{Walked}
use Rattle.leg_paths.specs.Leg.{leg_shape, leg_stops}

-- between two distances along a shape
abbrev pub distance_walk : ℕ → List Point → Span → Float → Walked
distance_walk k shape span frac = let spot = spot_over shape span frac in on_path k (ByDistance span) spot (draw_of shape (whole_of shape) spot)

-- between two vertices of a shape
abbrev pub route_walk : ℕ → List Point → Route → Way → Float → Walked
route_walk k shape route way frac = let spot = spot_along shape route way frac in on_path k (Polyline route way) spot (draw_of shape route.part spot)

-- along the stops between
abbrev pub chain_walk : ℕ → List Point → Route → Float → Walked
chain_walk k chain route frac = let spot = along_of chain route frac in on_path k (Chain route) spot (draw_of chain route.part spot)

-- as the crow flies
abbrev pub straight_walk : ℕ → Point → Point → Float → Walked
straight_walk k from to frac = on_path k Straight (Spot·straight frac) (draw_of (from ∷ to ∷ []) two (Spot·straight frac))

-- at a fraction of the leg that leads to call k
unfoldable pub leg_walk : List ℕ → List ℕ → List Float → Course → ℕ → Option ℕ → End → End → Path → Float → Walked
leg_walk bytes words reals c k trip from to path frac =
    walk_of k (leg_shape bytes words reals c trip) (leg_stops bytes words reals c trip from to) from.at to.at path frac
