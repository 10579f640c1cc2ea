-- What a search near a stop finds is a vertex of the line, and not before the one that it begins at. Assumes nothing.
use Rattle.std.specs.Prelude.{Option, Some, None}
use Prim.Native.Nat.{ℕ, suc, ◌+◌, ◌-◌, ◌<◌, ◌≤◌}
use native.Mathlib.Omega.{arith}
use mathlib.Core.Path.{◌≡◌, refl, ap}
use mathlib.Core.Bool.{Bool, true, false, cond}
use mathlib.Core.List.{List, [], ◌∷◌}
use lib.Ieee.{Float, le}
use lib.ListN.{length, drop, length-drop}
use Rattle.ids.proofs.ByteOrder.{clash}
use Rattle.lengths.specs.declared.line.Point.{Point}
use Rattle.vertices_within.specs.Near.{distances_of, first_within, last_within, or_else}
use Rattle.near_vertex.specs.Forward.{start_of, or_vertex, pick_from, forward_shape_index, forward_last_index}

-- ---- what a search finds is among what it searches

pub distance_count : (stop : Point) (line : List Point) → length (distances_of stop line) ≡ length line
unfolding distances_of
distance_count stop [] = refl
distance_count stop (v ∷ line) = ap suc (distance_count stop line)

-- a vertex found, or the other, is in a range that holds both
pub record Among (low high : ℕ) (f : Option ℕ) : Type 0 where
  pub from : (j : ℕ) → f ≡ Some j → low ≤ j
  pub below : (j : ℕ) → f ≡ Some j → j < high

at_among : {low high : ℕ} (k : ℕ) → low ≤ k → k < high → Among low high (Some k)
at_among k a b = record { from = λ j e. let q : k ≡ j = cc in omega arith; below = λ j e. let q : k ≡ j = cc in omega arith }

none_among : {low high : ℕ} → Among low high None
none_among = record { from = λ j e. clash (cc); below = λ j e. clash (cc) }

wider : {low high low' high' : ℕ} {f : Option ℕ} → low' ≤ low → high ≤ high' → Among low high f → Among low' high' f
wider a b m = record { from = λ j e. omega (arith, m.from j e); below = λ j e. omega (arith, m.below j e) }

pub first_among : (most : Float) (k : ℕ) (ds : List Float) → Among k (k + length ds) (first_within most k ds)
unfolding first_within
first_among most k [] = none_among
first_among most k (d ∷ ds) = go (wider (omega arith) (omega arith) (first_among most (suc k) ds)) (le d most) where
  go : Among k (k + suc (length ds)) (first_within most (suc k) ds) → (t : Bool) → Among k (k + suc (length ds)) (cond t (Some k) (first_within most (suc k) ds))
  go m true = at_among k (omega arith) (omega arith)
  go m false = m

pub last_among : (most : Float) (k : ℕ) (ds : List Float) → Among k (k + length ds) (last_within most k ds)
unfolding last_within
last_among most k [] = none_among
last_among most k (d ∷ ds) = go (last_within most (suc k) ds) (wider (omega arith) (omega arith) (last_among most (suc k) ds)) (le d most) where
  go : (f : Option ℕ) → Among k (k + suc (length ds)) f → (t : Bool) → Among k (k + suc (length ds)) (or_else f (cond t (Some k) None))
  go (Some j) m t = m
  go None m true = at_among k (omega arith) (omega arith)
  go None m false = none_among

-- ---- the vertex of a stop, whichever of those found is picked

module _ (pick : Float → ℕ → List Float → Option ℕ) (fair : (most : Float) (k : ℕ) (ds : List Float) → Among k (k + length ds) (pick most k ds)) where
  or_from : (low high : ℕ) (f : Option ℕ) → Among low high f → low ≤ or_vertex f low
  or_from low high (Some j) m = m.from j refl
  or_from low high None m = omega arith

  or_most : (low high : ℕ) (f : Option ℕ) → low ≤ high - 1 → Among low high f → or_vertex f low ≤ high - 1
  or_most low high (Some j) h m = omega (arith, m.below j refl)
  or_most low high None h m = h

  module _ (line : List Point) (from : ℕ) (stop : Point) where
    start_most : start_of line from ≤ length line - 1
    unfolding start_of
    start_most = omega arith

    found_among : (most : Float) → Among (start_of line from) (length line) (pick most (start_of line from) (distances_of stop (drop (start_of line from) line)))
    found_among most =
        let e : start_of line from + length (distances_of stop (drop (start_of line from) line)) ≡ length line = rw (distance_count, length-drop) (omega (arith, start_most)) in
        rw e at (fair most (start_of line from) (distances_of stop (drop (start_of line from) line)))

    picked_from : start_of line from ≤ pick_from pick line (start_of line from) stop
    picked_from = or_from (start_of line from) (length line) _ (found_among _)

    picked_most : pick_from pick line (start_of line from) stop ≤ length line - 1
    picked_most = or_most (start_of line from) (length line) _ start_most (found_among _)

module _ (line : List Point) (from : ℕ) (stop : Point) where
  -- it is not before the vertex that the search begins at
  pub first_from : start_of line from ≤ forward_shape_index line from stop
  unfolding forward_shape_index
  first_from = picked_from first_within first_among line from stop

  pub last_from : start_of line from ≤ forward_last_index line from stop
  unfolding forward_last_index
  last_from = picked_from last_within last_among line from stop

  -- it is one of the line's, or 0 where that has none
  pub first_most : forward_shape_index line from stop ≤ length line - 1
  unfolding forward_shape_index
  first_most = picked_most first_within first_among line from stop

  pub last_most : forward_last_index line from stop ≤ length line - 1
  unfolding forward_last_index
  last_most = picked_most last_within last_among line from stop
