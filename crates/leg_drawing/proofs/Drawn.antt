-- What holds of every leg's points. Assumes nothing.
use Rattle.std.specs.Prelude.{Option, Some}
use Prim.Native.Nat.{ℕ, ◌≤◌}
use native.Mathlib.Omega.{arith}
use mathlib.Core.Path.{◌≡◌, refl}
use mathlib.Core.List.{List, [], ◌∷◌}
use Rattle.lengths.specs.declared.line.Point.{Point}
use Rattle.line_parts.specs.declared.part.Part.{Part}
use Rattle.projection.specs.Projection.{at_start}
use Rattle.projection.proofs.Order.{in_order}
use Rattle.leg_points.specs.Leg.{vertex_of, leg_part, vertices_of, part_drawn, stops_drawn, leg_points}
use Rattle.leg_parts.specs.declared.ends.Ends.{Ends}
use Rattle.leg_points.proofs.Between.{Within, part_within}

-- the vertex of the leg's first stop is never after that of its last, so that the Rust has no need to exchange them
pub never_exchanged : (line : List Point) (stops : List (Option Point)) (leg : Ends) (i j : ℕ) → leg.board ≤ leg.alight →
    vertex_of line stops leg.board ≡ Some i → vertex_of line stops leg.alight ≡ Some j → i ≤ j
never_exchanged line stops leg i j o e f = in_order line at_start stops leg.board leg.alight i j o e f

one_vertex : (p : Point) (part : Part) → Within (p ∷ []) part → vertices_of (p ∷ []) part ≡ p ∷ []
unfolding vertices_of
one_vertex p part w =
    let a : part.first ≡ 0 = omega (arith, w.ordered, w.ends) in
    let b : part.last ≡ 0 = omega (arith, w.ordered, w.ends) in
    rw (a, b)

-- a line of one point is drawn as that point
pub single_point : (p : Point) (stops : List (Option Point)) (leg : Ends) → leg_points (p ∷ []) stops leg ≡ p ∷ []
unfolding leg_points part_drawn
single_point p stops leg = one_vertex p (leg_part (p ∷ []) stops leg) (part_within (p ∷ []) (omega arith) stops leg)

-- without a shape, or with one of no points, the leg is drawn from stop to stop
pub without_line : (stops : List (Option Point)) (leg : Ends) → leg_points [] stops leg ≡ stops_drawn stops leg
unfolding leg_points
without_line stops leg = refl
