-- Points drawn one by one into two columns. Assumes nothing.
use Rattle.std.specs.Prelude.{Option, Some, None}
use Prim.Native.Nat.{ℕ, zero, suc, ◌+◌, ◌<◌, ◌≤◌}
use native.Mathlib.Omega.{arith}
use mathlib.Core.Path.{◌≡◌, refl, sym, ap, ◌∙◌}
use mathlib.Core.Bool.{Bool}
use mathlib.Core.List.{List, [], ◌∷◌, ◌++◌, map}
use lib.Ieee.{Float}
use lib.ListN.{length, length-map, length-set, length-drop, take, drop, get_or, set, get_or-map}
use lib.Seq.{paste, paste-suc, take_all}
use Rattle.ids.proofs.ByteOrder.{clash}
use Rattle.lengths.specs.Line.{nowhere}
use Rattle.lengths.specs.declared.line.Point.{Point}
use Rattle.point_columns.specs.Drawn.{next_of, later_of, before, drawn_from, lats_of, lons_of, lat_put, lon_put, row_after}

-- the element at k, and those after it
module _ {A : Type 0} {w : A} {ws : List A} where
  at_head : (d : A) (vs : List A) (k : ℕ) → drop k vs ≡ w ∷ ws → get_or vs k d ≡ w
  at_head d vs zero e = rw e
  at_head d [] (suc k) e = clash (cc)
  at_head d (v ∷ vs) (suc k) e = at_head d vs k e

  after_head : (vs : List A) (k : ℕ) → drop k vs ≡ w ∷ ws → drop (suc k) vs ≡ ws
  after_head vs zero e = rw e
  after_head [] (suc k) e = clash (cc)
  after_head (v ∷ vs) (suc k) e = after_head vs k e

  below : (vs : List A) (k : ℕ) → drop k vs ≡ w ∷ ws → k < length vs
  below vs k e = let q : length (drop k vs) ≡ suc (length ws) = ap length e in omega (arith, length-drop k vs)

-- an output whose first k rows are those of vs
abbrev pub begun : {A : Type 0} → List A → List A → ℕ → List A
begun vs out k = take k vs ++ drop k out

module _ {A : Type 0} (vs out₀ : List A) where
  pasted : (k : ℕ) → paste out₀ 0 vs k ≡ begun vs out₀ k
  pasted k = let z : 0 + k ≡ k = omega arith in ap (λ (n : ℕ). take k vs ++ drop n out₀) z

  pub one_more : (d : A) (k : ℕ) → k < length out₀ → k < length vs → set (begun vs out₀ k) k (get_or vs k d) ≡ begun vs out₀ (suc k)
  one_more d k room l =
      let z : k ≡ 0 + k = omega arith in
      ap (λ (out : List A). set out k (get_or vs k d)) (sym (pasted k))
      ∙ ap (λ (n : ℕ). set (paste out₀ 0 vs k) n (get_or vs k d)) z
      ∙ paste-suc out₀ 0 vs k d (omega arith) l
      ∙ pasted (suc k)

  pub all_of_them : (k : ℕ) → length vs ≤ k → begun vs out₀ k ≡ vs ++ drop k out₀
  all_of_them k l = ap (λ (ws : List A). ws ++ drop k out₀) (take_all k vs l)

-- Where a drawing stands: `points` are all that it has to draw, the columns were lat₀ and lon₀, and these positions are still to come.
pub record Drawn (differ : Point → Point → Bool) (points : List Point) (lat₀ lon₀ : List Float) (rest : List (Option Point)) (lat lon : List Float) (last : Option Point) (k : ℕ) : Type 0 where
  pub so_far : k ≤ length points
  pub left : drop k points ≡ drawn_from differ last rest
  pub lat_long : length lat ≡ length lat₀
  pub lon_long : length lon ≡ length lon₀
  pub lat_begun : length points ≤ length lat₀ → lat ≡ begun (lats_of points) lat₀ k
  pub lon_begun : length points ≤ length lon₀ → lon ≡ begun (lons_of points) lon₀ k

module _ (differ : Point → Point → Bool) where
  pub starts : (stops : List (Option Point)) (lat lon : List Float) → Drawn differ (drawn_from differ None stops) lat lon stops lat lon None 0
  starts stops lat lon = record { so_far = omega arith; left = refl; lat_long = refl; lon_long = refl; lat_begun = λ h. refl; lon_begun = λ h. refl }

  module _ {points : List Point} {lat₀ lon₀ : List Float} {lat lon : List Float} {last : Option Point} {k : ℕ} where
    -- one position more
    pub goes_on : (s : Option Point) {rest : List (Option Point)} → Drawn differ points lat₀ lon₀ (s ∷ rest) lat lon last k → {drawn : Option Point} → drawn ≡ next_of differ last s →
        Drawn differ points lat₀ lon₀ rest (lat_put lat k drawn) (lon_put lon k drawn) (later_of last drawn) (row_after drawn k)
    unfolding drawn_from
    goes_on s {rest} f {drawn} e = go drawn (f.left ∙ rw (← e)) where
      go : (d : Option Point) → drop k points ≡ before d (drawn_from differ (later_of last d) rest) →
          Drawn differ points lat₀ lon₀ rest (lat_put lat k d) (lon_put lon k d) (later_of last d) (row_after d k)
      go (Some p) q =
          let l = below points k q in
          record {
            so_far = omega arith;
            left = after_head points k q;
            lat_long = simp length-set f.lat_long;
            lon_long = simp length-set f.lon_long;
            lat_begun = λ h. rw (f.lat_begun h, ← at_head nowhere points k q) (rw (← get_or-map (λ (v : Point). v.lat) points k nowhere) (one_more (lats_of points) lat₀ _ k (omega arith) (simp length-map l)));
            lon_begun = λ h. rw (f.lon_begun h, ← at_head nowhere points k q) (rw (← get_or-map (λ (v : Point). v.lon) points k nowhere) (one_more (lons_of points) lon₀ _ k (omega arith) (simp length-map l)));
          }
      go None q = record { so_far = f.so_far; left = q; lat_long = f.lat_long; lon_long = f.lon_long; lat_begun = f.lat_begun; lon_begun = f.lon_begun }

    -- none more: the row is as many as the points, and all are written where the columns have room
    module _ (f : Drawn differ points lat₀ lon₀ [] lat lon last k) where
      pub ends : k ≡ length points
      unfolding drawn_from
      ends = omega (arith, f.so_far, simp length-drop at (ap length f.left))

      pub lat_ends : k ≤ length lat₀ → lat ≡ lats_of points ++ drop k lat₀
      lat_ends h = f.lat_begun (omega (arith, ends)) ∙ all_of_them (lats_of points) lat₀ k (simp length-map (omega (arith, ends)))

      pub lon_ends : k ≤ length lon₀ → lon ≡ lons_of points ++ drop k lon₀
      lon_ends h = f.lon_begun (omega (arith, ends)) ∙ all_of_them (lons_of points) lon₀ k (simp length-map (omega (arith, ends)))
