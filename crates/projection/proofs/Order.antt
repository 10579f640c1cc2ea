-- The vertices of a trip's stops: each stop with a position gets one, on the line, and none before an earlier stop's. Assumes nothing.
use Rattle.std.specs.Prelude.{Option, Some, None}
use Prim.Native.Nat.{ℕ, zero, suc, ◌+◌, ◌-◌, ◌<◌, ◌≤◌}
use native.Mathlib.Omega.{arith}
use mathlib.Core.Path.{◌≡◌, refl, ap}
use mathlib.Core.List.{List, [], ◌∷◌}
use lib.ListN.{length, get_or}
use Rattle.ids.proofs.ByteOrder.{clash}
use Rattle.lengths.specs.declared.line.Point.{Point}
use Rattle.near_vertex.specs.Forward.{start_of, forward_shape_index}
use Rattle.near_vertex.proofs.Range.{first_from, first_most}
use Rattle.projection.specs.Projection.{step_of, passed_of, projection_from}
use Rattle.projection.specs.declared.cursor.Cursor.{Cursor}

module _ (line : List Point) where
  -- each stop has its place among the vertices
  pub same_count : (c : Cursor) (stops : List (Option Point)) → length (projection_from line c stops) ≡ length stops
  unfolding projection_from
  same_count c [] = refl
  same_count c (s ∷ stops) = ap suc (same_count (passed_of line c s).cursor stops)

  -- a stop with a position gets a vertex of the line
  pub gets_vertex : (c : Cursor) (stops : List (Option Point)) (i : ℕ) (p : Point) → get_or stops i None ≡ Some p →
      (v : ℕ) × (get_or (projection_from line c stops) i None ≡ Some v) × (0 < length line → v < length line)
  unfolding projection_from step_of
  gets_vertex c [] i p e = clash (cc)
  gets_vertex c (s ∷ stops) zero p e =
      (forward_shape_index line c.at p, ap (λ (t : Option Point). (passed_of line c t).vertex) e, λ h. omega (arith, first_most line c.at p))
  gets_vertex c (s ∷ stops) (suc i) p e = gets_vertex (passed_of line c s).cursor stops i p e

  -- a stop without one gets none
  pub gets_none : (c : Cursor) (stops : List (Option Point)) (i : ℕ) → get_or stops i None ≡ None → get_or (projection_from line c stops) i None ≡ None
  unfolding projection_from
  gets_none c [] i e = refl
  gets_none c (s ∷ stops) zero e = ap (λ (t : Option Point). (passed_of line c t).vertex) e
  gets_none c (s ∷ stops) (suc i) e = gets_none (passed_of line c s).cursor stops i e

  -- and does not move the cursor
  pub unmoved : (c : Cursor) → (passed_of line c None).cursor ≡ c
  unmoved c = refl

  -- a cursor at one of the line's vertices
  abbrev OnLine : Cursor → Type 0
  OnLine c = c.at ≤ length line - 1

  stays : (c : Cursor) (s : Option Point) → OnLine c → OnLine (passed_of line c s).cursor
  unfolding step_of
  stays c (Some p) h = first_most line c.at p
  stays c None h = h

  starts_there : (k : ℕ) → k ≤ length line - 1 → start_of line k ≡ k
  unfolding start_of
  starts_there k h = omega arith

  moves_on : (c : Cursor) (s : Option Point) → OnLine c → c.at ≤ (passed_of line c s).cursor.at
  unfolding step_of
  moves_on c (Some p) h = omega (arith, first_from line c.at p, starts_there c.at h)
  moves_on c None h = omega arith

  from_cursor : (c : Cursor) (stops : List (Option Point)) (j w : ℕ) → OnLine c → get_or (projection_from line c stops) j None ≡ Some w → c.at ≤ w
  unfolding projection_from step_of
  from_cursor c [] j w h e = clash (cc)
  from_cursor c (Some p ∷ stops) zero w h e = let q : forward_shape_index line c.at p ≡ w = cc in omega (arith, first_from line c.at p, starts_there c.at h)
  from_cursor c (None ∷ stops) zero w h e = clash (cc)
  from_cursor c (s ∷ stops) (suc j) w h e = omega (arith, moves_on c s h, from_cursor (passed_of line c s).cursor stops j w (stays c s h) e)

  -- no stop's vertex is before an earlier stop's
  pub in_order : (c : Cursor) (stops : List (Option Point)) (i j v w : ℕ) → i ≤ j → get_or (projection_from line c stops) i None ≡ Some v →
      get_or (projection_from line c stops) j None ≡ Some w → v ≤ w
  unfolding projection_from step_of
  in_order c [] i j v w h e f = clash (cc)
  in_order c (s ∷ stops) zero zero v w h e f = let q : v ≡ w = cc in omega arith
  in_order c (Some p ∷ stops) zero (suc j) v w h e f =
      let q : forward_shape_index line c.at p ≡ v = cc in
      omega (arith, from_cursor (passed_of line c (Some p)).cursor stops j w (first_most line c.at p) f)
  in_order c (None ∷ stops) zero (suc j) v w h e f = clash (cc)
  in_order c (s ∷ stops) (suc i) zero v w h e f = absurd (omega arith)
  in_order c (s ∷ stops) (suc i) (suc j) v w h e f = in_order (passed_of line c s).cursor stops i j v w (omega arith) e f
