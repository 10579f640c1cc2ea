-- A position is that of the place, bit for bit, for every path, fraction and length, NaN included; and whether there is one does not hang on the fraction. Assumes nothing.
use Rattle.std.specs.Prelude.{Some, None}
use Prim.Native.Nat.{◌≤◌}
use mathlib.Core.Path.{◌≡◌}
use mathlib.Core.List.{List}
use borrow.Author.Tests.{le-ltb}
use lib.Ieee.{Float}
use lib.ListN.{length}
use Rattle.lengths.specs.declared.line.Point.{Point}
use Rattle.line_parts.specs.Part.{whole_of}
use Rattle.stretches.specs.Drawing.{draw_of}
use Rattle.ways.specs.declared.way.Way.{Way}
use Rattle.spans.specs.Span.{span_of}
use Rattle.by_distance.specs.Interpolate.{spot_over, by_dist}
use Rattle.spans.specs.declared.span.Span.{Span}
use Rattle.routes.specs.Route.{route_of, along_of, along_vertices}
use Rattle.routes.specs.declared.route.Route.{Route}
use Rattle.polylines.specs.Polyline.{spot_along, polyline_of}
use Rattle.stop_routes.specs.Routed.{route_between}

module _ (line : List Point) (frac : Float) where
  -- by distance
  pub agrees_by_distance : (d₀ d₁ : Float) (span : Span) → 2 ≤ length line → span_of d₀ d₁ ≡ Some span → by_dist line d₀ d₁ frac ≡ Some (draw_of line (whole_of line) (spot_over line span frac))
  unfolding by_dist
  agrees_by_distance d₀ d₁ span h e = rw (le-ltb (length line) 2 h, e)

  pub none_when_short : (d₀ d₁ : Float) → 2 ≤ length line → span_of d₀ d₁ ≡ None → by_dist line d₀ d₁ frac ≡ None
  unfolding by_dist
  none_when_short d₀ d₁ h e = rw (le-ltb (length line) 2 h, e)

  -- along a whole line
  pub agrees_along : 1 ≤ length line → along_vertices line frac ≡ Some (draw_of line (whole_of line) (along_of line (route_of line (whole_of line)) frac))
  unfolding along_vertices
  agrees_along h = rw (le-ltb (length line) 1 h)

  -- between two stops
  pub agrees_polyline : (prev next : Point) (route : Route) (way : Way) → route_between line prev next ≡ Some (record { route = route; way = way }) →
      polyline_of line prev next frac ≡ Some (draw_of line route.part (spot_along line route way frac))
  unfolding polyline_of
  agrees_polyline prev next route way e = rw e

  pub none_without_route : (prev next : Point) → route_between line prev next ≡ None → polyline_of line prev next frac ≡ None
  unfolding polyline_of
  none_without_route prev next e = rw e
