-- The part of a line between the vertices nearest to two stops. Definitions only.
use Rattle.stretches.specs.declared.drawing.Drawn.{Drawn}
use Rattle.std.specs.Prelude.{List, Float, Option, Some, None}
use Rattle.ieee.specs.Number.{clamp01_of}
use Rattle.lengths.specs.declared.line.Point.{Point}
use Rattle.ways.specs.Way.{turned_of}
use Rattle.stretches.specs.Drawing.{draw_of}
use Rattle.stretches.specs.declared.spot.Spot.{Spot}
use Rattle.ways.specs.declared.way.Way.{Way}
use Rattle.routes.specs.declared.route.Route.{Route}
use Rattle.stop_routes.specs.Routed.{route_between}
use Rattle.stop_routes.specs.declared.between.Routed.{Routed}
use Rattle.routes.specs.Route.{along_of}

-- where a route is at a fraction of it in sailing direction
unfoldable pub spot_along : List Point → Route → Way → Float → Spot
spot_along line route way frac = along_of line route (clamp01_of (turned_of way frac))

-- the position there
abbrev pub drawn_along : List Point → Option Routed → Float → Option Drawn
drawn_along line (Some r) frac = Some (draw_of line r.route.part (spot_along line r.route r.way frac))
drawn_along line None frac = None

unfoldable pub polyline_of : List Point → Point → Point → Float → Option Drawn
polyline_of line prev next frac = drawn_along line (route_between line prev next) frac
