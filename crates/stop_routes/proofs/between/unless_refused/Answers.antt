-- `stop_routes::between::unless_refused` meets its contract.
use Rattle.std.specs.Prelude.{Some, None}
use mathlib.Core.Path.{◌≡◌, sym, ◌∙◌}
use mathlib.Core.Bool.{true, false}
use mathlib.Core.List.{List}
use lib.Ieee.{lt, of_bits, of_int}
use Rattle.floats.specs.Number.{one}
use Rattle.lengths.specs.declared.line.Point.{Point}
use Rattle.line_parts.specs.declared.part.Part.{Part}
use Rattle.ways.specs.declared.way.Way.{Way}
use Rattle.routes.specs.Route.{route_of}
use Rattle.stop_routes.specs.Routed.{roundabout, routed_of}
use Rattle.routes.specs.declared.route.Route.{Route}
use Rattle.stop_routes.proofs.between.unless_refused.Goals as goal
use Rattle.stop_routes.proofs.between.unless_refused.Goals.{then-route, else-route}

module _ (line : List Point) (part : Part) (way : Way) (prev next : Point) {route : Route} (e : route ≡ route_of line part) where
  short : lt route.total one ≡ true → None ≡ routed_of line part way prev next
  unfolding routed_of
  short h = rw (← e, h)

  far : lt route.total one ≡ false → roundabout route.total prev next ≡ true → None ≡ routed_of line part way prev next
  unfolding routed_of
  far h r = rw (← e, h, r)

  fair : lt route.total one ≡ false → roundabout route.total prev next ≡ false → Some (record { route = route; way = way }) ≡ routed_of line part way prev next
  unfolding routed_of
  fair h r = rw (← e, h, r)

pub returns-then-is_roundabout : goal.returns-then-is_roundabout
unfolding of_bits of_int
returns-then-is_roundabout c =
    elim c.if-route.branch [
      | then-route w ↦ short _ _ _ _ _ c.route_of-route.ensures w.if-route.true
      | else-route w ↦ far _ _ _ _ _ c.route_of-route.ensures w.if-route.false (sym w.is_roundabout.ensures ∙ sym w.value-is ∙ c.if-is_roundabout.true)
    ]

pub returns-else-is_roundabout : goal.returns-else-is_roundabout
unfolding of_bits of_int
returns-else-is_roundabout c =
    elim c.if-route.branch [
      | then-route w ↦ cc
      | else-route w ↦ fair _ _ _ _ _ c.route_of-route.ensures w.if-route.false (sym w.is_roundabout.ensures ∙ sym w.value-is ∙ c.if-is_roundabout.false)
    ]
