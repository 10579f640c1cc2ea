-- Legs and points drawn one after another. Assumes nothing.
use Rattle.std.specs.Prelude.{Option, Some, None}
use Rattle.lengths.specs.declared.line.Point.{Point}
use Prim.Native.Nat.{ℕ, zero, suc, ◌+◌, ◌-◌, ◌*◌, ◌<◌, ◌≤◌}
use native.Mathlib.Omega.{arith}
use mathlib.Core.Path.{◌≡◌, refl, sym, ap, ◌∙◌}
use mathlib.Core.List.{List, [], ◌∷◌, ◌++◌}
use borrow.Author.Tests.{eq-eqb, ne_eqb, lt-ltb, le-ltb}
use lib.Ieee.{Float}
use lib.ListN.{length, length-set, drop}
use Rattle.ids.specs.Pool.{cell_of}
use Rattle.columns.specs.Rows.{bit_of}
use Rattle.trip_vertices.specs.Vertices.{positions_from}
use Rattle.point_columns.specs.Drawn.{next_of, lat_put, lon_put, drawn_from, lats_of, lons_of}
use Rattle.point_columns.specs.Sheet.{Sheet, sheet, draw_one, draw_all}
use Rattle.point_columns.proofs.Sheets.{in_parts, one_most, counted, lat_done, lon_done}
use Rattle.journey_points.specs.Journey.{point_position, end_positions, own_positions, leg_positions, legs_from}
use Rattle.repeated_points.specs.Repeats.{differ}
use Rattle.journey_rules.specs.declared.lent.JourneyLegs.{JourneyLegs}

-- ---- the columns keep their lengths

put_lat : (out : List Float) (k : ℕ) (d : Option Point) → length (lat_put out k d) ≡ length out
put_lat out k (Some p) = length-set out k p.lat
put_lat out k None = refl

put_lon : (out : List Float) (k : ℕ) (d : Option Point) → length (lon_put out k d) ≡ length out
put_lon out k (Some p) = length-set out k p.lon
put_lon out k None = refl

-- a drawing that went on: in columns as long as they were, and no more rows than so many
pub record Onward (s s' : Sheet) (most : ℕ) : Type 0 where
  pub lats : length s'.lat ≡ length s.lat
  pub lons : length s'.lon ≡ length s.lon
  pub few : s'.at ≤ s.at + most

pub one_on : (s : Sheet) (x : Option Point) → Onward s (draw_one differ s x) 1
unfolding draw_one
one_on s x =
    let d = next_of differ s.last x in
    record { lats = put_lat s.lat s.at d; lons = put_lon s.lon s.at d; few = one_most differ s x }

pub all_on : (s : Sheet) (xs : List (Option Point)) → Onward s (draw_all differ s xs) (length xs)
unfolding draw_all
all_on s [] = record { lats = refl; lons = refl; few = omega arith }
all_on s (x ∷ xs) =
    let a = one_on s x in
    let b = all_on (draw_one differ s x) xs in
    record { lats = b.lats ∙ a.lats; lons = b.lons ∙ a.lons; few = omega (arith, a.few, b.few) }

positions_count : (position : ℕ → Option Point) (row n : ℕ) → length (positions_from position row n) ≡ n
unfolding positions_from
positions_count position row zero = refl
positions_count position row (suc n) = ap suc (positions_count position (suc row) n)

-- by a leg's points, and by its ends
pub rows_on : (s : Sheet) {s' : Sheet} (position : ℕ → Option Point) (row n : ℕ) → s' ≡ draw_all differ s (positions_from position row n) → s'.at ≤ s.at + n
rows_on s position row n e = rw e (omega (arith, (all_on s (positions_from position row n)).few, positions_count position row n))

pub two_on : (s : Sheet) {s' : Sheet} (x y : Option Point) → s' ≡ draw_all differ s (x ∷ y ∷ []) → s'.at ≤ s.at + 2
two_on s x y e = rw e (all_on s (x ∷ y ∷ [])).few

-- two positions
pub both : (s₀ : Sheet) {s₁ s₂ : Sheet} (x y : Option Point) → s₁ ≡ draw_one differ s₀ x → s₂ ≡ draw_one differ s₁ y → s₂ ≡ draw_all differ s₀ (x ∷ y ∷ [])
unfolding draw_all
both s₀ x y e f = f ∙ rw e

pub first_few : (s₀ : Sheet) {s₁ : Sheet} (x : Option Point) → s₁ ≡ draw_one differ s₀ x → s₁.at ≤ s₀.at + 1
first_few s₀ x e = rw e (one_on s₀ x).few

-- ---- the loop over a leg's points

module _ (position : ℕ → Option Point) (first n : ℕ) (s₀ : Sheet) where
  pub record Going (s : Sheet) (k : ℕ) : Type 0 where
    pub so_far : k ≤ n
    pub on : Onward s₀ s k
    pub left : draw_all differ s₀ (positions_from position first n) ≡ draw_all differ s (positions_from position (first + k) (n - k))

  pub start : Going s₀ 0
  start =
      let z : first + 0 ≡ first = omega arith in
      let m : n - 0 ≡ n = omega arith in
      record { so_far = omega arith; on = record { lats = refl; lons = refl; few = omega arith }; left = rw (z, m) }

  module _ {s : Sheet} {k : ℕ} (f : Going s k) where
    pub more : k < n → {s' : Sheet} → s' ≡ draw_one differ s (position (first + k)) → Going s' (k + 1)
    unfolding positions_from draw_all
    more h e =
        let i : n - k ≡ suc (n - (k + 1)) = omega arith in
        let j : first + (k + 1) ≡ suc (first + k) = omega arith in
        let a = one_on s (position (first + k)) in
        rw e
        (record {
          so_far = omega arith;
          on = record { lats = a.lats ∙ f.on.lats; lons = a.lons ∙ f.on.lons; few = omega (arith, a.few, f.on.few) };
          left = f.left ∙ rw (i, j);
        })

    pub done : n ≤ k → s ≡ draw_all differ s₀ (positions_from position first n)
    unfolding positions_from draw_all
    done h = let i : n - k ≡ 0 = omega arith in sym (f.left ∙ rw i)

-- ---- the loop over legs

module _ (leg : ℕ → List (Option Point)) (n : ℕ) (s₀ : Sheet) where
  pub record Stitching (s : Sheet) (k : ℕ) : Type 0 where
    pub so_far : k ≤ n
    pub on : Onward s₀ s (k * 4294967295)
    pub left : draw_all differ s₀ (legs_from leg 0 n) ≡ draw_all differ s (legs_from leg k (n - k))

  pub begin : Stitching s₀ 0
  begin =
      let m : n - 0 ≡ n = omega arith in
      record { so_far = omega arith; on = record { lats = refl; lons = refl; few = omega arith }; left = rw m }

  module _ {s : Sheet} {k : ℕ} (f : Stitching s k) where
    pub next_leg : k < n → {s' : Sheet} → s' ≡ draw_all differ s (leg k) → s'.at ≤ s.at + 4294967295 → Stitching s' (k + 1)
    unfolding legs_from
    next_leg h {s'} e l =
        let i : n - k ≡ suc (n - (k + 1)) = omega arith in
        let j : k + 1 ≡ suc k = omega arith in
        let a = all_on s (leg k) in
        record {
          so_far = omega arith;
          on = record { lats = rw e (a.lats ∙ f.on.lats); lons = rw e (a.lons ∙ f.on.lons); few = omega (arith, l, f.on.few) };
          left = f.left ∙ rw i (in_parts differ s (leg k) (legs_from leg (suc k) (n - (k + 1))) ∙ rw (e, j));
        }

    pub over : n ≤ k → s ≡ draw_all differ s₀ (legs_from leg 0 n)
    unfolding legs_from draw_all
    over h = let i : n - k ≡ 0 = omega arith in sym (f.left ∙ rw i)

-- all drawn
pub finished : (stops : List (Option Point)) (lat lon : List Float) {s : Sheet} → s ≡ draw_all differ (sheet lat lon None 0) stops →
    (s.at ≡ length (drawn_from differ None stops))
    × ((s.at ≤ length lat → s.lat ≡ lats_of (drawn_from differ None stops) ++ drop s.at lat)
    × (s.at ≤ length lon → s.lon ≡ lons_of (drawn_from differ None stops) ++ drop s.at lon))
finished stops lat lon e = rw e (counted differ stops lat lon, (lat_done differ stops lat lon, lon_done differ stops lat lon))

-- ---- what is to be drawn of a leg

module _ (bytes words : List ℕ) (reals : List Float) (j : JourneyLegs) (leg : ℕ) where
  pub transit : bit_of bytes j.walk leg ≡ 0 → own_positions words reals j leg ≡ leg_positions bytes words reals j leg
  unfolding leg_positions
  transit e = rw (eq-eqb _ _ e)

  module _ (w : bit_of bytes j.walk leg ≡ 0 → ⊥) where
    pub short_walk : cell_of words j.count leg < 2 → end_positions bytes reals j leg ≡ leg_positions bytes words reals j leg
    unfolding leg_positions
    short_walk h = rw (ne_eqb _ _ w, lt-ltb _ _ h)

    pub long_walk : 2 ≤ cell_of words j.count leg → own_positions words reals j leg ≡ leg_positions bytes words reals j leg
    unfolding leg_positions
    long_walk h = rw (ne_eqb _ _ w, le-ltb _ _ h)
