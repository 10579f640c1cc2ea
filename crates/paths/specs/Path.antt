-- How a leg is drawn, and which path is chosen: without the fraction. Definitions only.
use Rattle.unit_scales.specs.declared.metres.Affine.{Affine}
use Rattle.spans.specs.declared.span.Span.{Span}
use Rattle.std.specs.Prelude.{cond, List, [], ◌∷◌, ltb, Float, length, Option, Some, None}
use Rattle.lengths.specs.declared.line.Point.{Point}
use Rattle.line_parts.specs.Part.{whole_of}
use Rattle.line_parts.specs.declared.part.Part.{Part}
use Rattle.stretches.specs.declared.spot.Spot.{Spot}
use Rattle.stretches.specs.declared.spot.Spot.TheVariants.{Straight as Spot·straight}
use Rattle.ways.specs.declared.way.Way.{Way}
use Rattle.ways.specs.declared.way.Way.TheVariants.{With}
use Rattle.spans.specs.Span.{span_of, feed_metres}
use Rattle.by_distance.specs.Interpolate.{spot_over}
use Rattle.routes.specs.Route.{route_of, along_of}
use Rattle.polylines.specs.Polyline.{spot_along}
use Rattle.stop_routes.specs.Routed.{route_between}
use Rattle.stop_routes.specs.declared.between.Routed.{Routed}
use Rattle.paths.specs.declared.path.Path.{Path}
use Rattle.paths.specs.declared.path.Path.TheVariants.{ByDistance, Polyline, Chain, Straight}
use Rattle.paths.specs.declared.path.Line.{Line}
use Rattle.paths.specs.declared.path.Line.TheVariants.{Shape, Chain as Line·chain, Straight as Line·straight}
use Rattle.paths.specs.declared.status.Status.{Status}
use Rattle.paths.specs.declared.status.Status.TheVariants.{OnShape, OnStopChain, InTransitTo}

-- ---- the choice

-- the span between two distances of a feed; short where one is missing, or the calibration
abbrev pub feed_span : Option Affine → Option Float → Option Float → Option Span
feed_span None d₀ d₁ = None
feed_span (Some c) None d₁ = None
feed_span (Some c) (Some d₀) None = None
feed_span (Some c) (Some d₀) (Some d₁) = span_of (feed_metres c.a c.b d₀) (feed_metres c.a c.b d₁)

-- by distance, unless the span is short
abbrev pub over_span : Option Span → Path → Path
over_span (Some span) other = ByDistance span
over_span None other = other

-- along the route, if there is one
abbrev pub over_route : Option Routed → Path → Path
over_route (Some r) other = Polyline r.route r.way
over_route None other = other

-- along the stops between
abbrev pub over_chain : List Point → Path
over_chain chain = Chain (route_of chain (whole_of chain))

-- A leg of a trip that is found: on a shape of two points or more by distance, else between the nearest vertices; and else along the stops between. A leg of no trip is straight.
unfoldable pub path_of : List Point → Option Affine → Option Float → Option Float → List Point → Point → Point → Path
path_of shape calibrated d₀ d₁ chain from to =
    cond (ltb (length shape) 2) (over_chain chain) (over_span (feed_span calibrated d₀ d₁) (over_route (route_between shape from to) (over_chain chain)))

-- ---- what a path is

-- the leg's line of a kind
abbrev pub leg_line : List Point → List Point → Point → Point → Line → List Point
leg_line shape chain from to Shape = shape
leg_line shape chain from to Line·chain = chain
leg_line shape chain from to Line·straight = from ∷ to ∷ []

-- what its vertices are counted over
abbrev pub path_kind : Path → Line
path_kind (ByDistance span) = Shape
path_kind (Polyline route way) = Shape
path_kind (Chain route) = Line·chain
path_kind Straight = Line·straight

-- the path's line
abbrev pub path_line : List Point → List Point → Point → Point → Path → List Point
path_line shape chain from to path = leg_line shape chain from to (path_kind path)

-- the part of that line
abbrev pub path_part : List Point → Path → Part
path_part shape (ByDistance span) = whole_of shape
path_part shape (Polyline route way) = route.part
path_part shape (Chain route) = route.part
path_part shape Straight = record { first = 0; last = 1 }

-- the way that it is sailed; a chain's points are in sailing direction
abbrev pub path_way : Path → Way
path_way (ByDistance span) = span.way
path_way (Polyline route way) = way
path_way (Chain route) = With
path_way Straight = With

-- the status of a ferry on it
abbrev pub path_status : Path → Status
path_status (ByDistance span) = OnShape
path_status (Polyline route way) = OnShape
path_status (Chain route) = OnStopChain
path_status Straight = InTransitTo

-- where it is at a fraction of it in sailing direction
abbrev pub spot_of : List Point → List Point → Path → Float → Spot
spot_of shape chain (ByDistance span) frac = spot_over shape span frac
spot_of shape chain (Polyline route way) frac = spot_along shape route way frac
spot_of shape chain (Chain route) frac = along_of chain route frac
spot_of shape chain Straight frac = Spot·straight frac
