-- A part of a line, by its columns. Assumes nothing.
use Rattle.std.specs.Prelude.{Option}
use Rattle.lengths.specs.declared.line.Point.{Point}
use Prim.Native.Nat.{ℕ, zero, suc, ◌+◌, ◌-◌, ◌<◌, ◌≤◌}
use native.Mathlib.Omega.{arith}
use mathlib.Core.Path.{◌≡◌, refl, ap, ◌∙◌}
use mathlib.Core.List.{List, [], ◌∷◌, ◌++◌}
use lib.Ieee.{Float}
use lib.ListN.{length, take, drop, length-take, length-drop, length-map}
use Rattle.lengths.specs.Line.{line_of}
use Rattle.lengths.proofs.Rows.{vertex_count}
use Rattle.line_parts.specs.declared.part.Part.{Part}
use Rattle.point_columns.specs.Drawn.{lats_of, lons_of}
use Rattle.leg_points.specs.Leg.{leg_part, vertices_of, part_drawn}
use Rattle.leg_parts.specs.declared.ends.Ends.{Ends}
use Rattle.leg_points.proofs.Between.{Within, part_within}

pub part_lats : (lats lons : List Float) (a n : ℕ) → a + n ≤ length (line_of lats lons) → lats_of (take n (drop a (line_of lats lons))) ≡ take n (drop a lats)
unfolding line_of
part_lats [] lons zero zero h = refl
part_lats [] lons zero (suc n) h = absurd (omega arith)
part_lats [] lons (suc a) n h = absurd (omega arith)
part_lats (y ∷ ys) [] zero zero h = refl
part_lats (y ∷ ys) [] zero (suc n) h = absurd (omega arith)
part_lats (y ∷ ys) [] (suc a) n h = absurd (omega arith)
part_lats (y ∷ ys) (x ∷ xs) zero zero h = refl
part_lats (y ∷ ys) (x ∷ xs) zero (suc n) h = ap (λ (zs : List Float). y ∷ zs) (part_lats ys xs zero n (omega arith))
part_lats (y ∷ ys) (x ∷ xs) (suc a) n h = part_lats ys xs a n (omega arith)

pub part_lons : (lats lons : List Float) (a n : ℕ) → a + n ≤ length (line_of lats lons) → lons_of (take n (drop a (line_of lats lons))) ≡ take n (drop a lons)
unfolding line_of
part_lons [] lons zero zero h = refl
part_lons [] lons zero (suc n) h = absurd (omega arith)
part_lons [] lons (suc a) n h = absurd (omega arith)
part_lons (y ∷ ys) [] zero zero h = refl
part_lons (y ∷ ys) [] zero (suc n) h = absurd (omega arith)
part_lons (y ∷ ys) [] (suc a) n h = absurd (omega arith)
part_lons (y ∷ ys) (x ∷ xs) zero zero h = refl
part_lons (y ∷ ys) (x ∷ xs) zero (suc n) h = ap (λ (zs : List Float). x ∷ zs) (part_lons ys xs zero n (omega arith))
part_lons (y ∷ ys) (x ∷ xs) (suc a) n h = part_lons ys xs a n (omega arith)

-- what is drawn of a leg along a line that has a vertex
module _ (lats lons : List Float) (some : 0 < length (line_of lats lons)) (stops : List (Option Point)) (leg : Ends) {part : Part} (e : part ≡ leg_part (line_of lats lons) stops leg) where
  pub within : Within (line_of lats lons) part
  within = rw e (part_within (line_of lats lons) some stops leg)

  pub in_lats : part.last + 1 ≤ length lats
  in_lats = omega (arith, within.ends, vertex_count lats lons)

  pub in_lons : part.last + 1 ≤ length lons
  in_lons = omega (arith, within.ends, vertex_count lats lons)

  turned : suc part.last - part.first ≡ part.last + 1 - part.first
  turned = omega arith

  pub count : part.last + 1 - part.first ≡ length (part_drawn (line_of lats lons) stops leg)
  unfolding part_drawn vertices_of
  count = rw (← e, length-take, length-drop) (omega (arith, within.ordered, within.ends))

  lats_drawn : take (part.last + 1 - part.first) (drop part.first lats) ≡ lats_of (part_drawn (line_of lats lons) stops leg)
  unfolding part_drawn vertices_of
  lats_drawn = rw (← e, turned, part_lats lats lons part.first (part.last + 1 - part.first) (omega (arith, within.ordered, within.ends)))

  lons_drawn : take (part.last + 1 - part.first) (drop part.first lons) ≡ lons_of (part_drawn (line_of lats lons) stops leg)
  unfolding part_drawn vertices_of
  lons_drawn = rw (← e, turned, part_lons lats lons part.first (part.last + 1 - part.first) (omega (arith, within.ordered, within.ends)))

  -- its rows, written
  pub lats_written : (out : List Float) {rows out' : List Float} → out' ≡ rows ++ drop (length rows) out → rows ≡ take (part.last + 1 - part.first) (drop part.first lats) →
      out' ≡ lats_of (part_drawn (line_of lats lons) stops leg) ++ drop (length (part_drawn (line_of lats lons) stops leg)) out
  lats_written out p q = p ∙ rw (q, lats_drawn, length-map)

  pub lons_written : (out : List Float) {rows out' : List Float} → out' ≡ rows ++ drop (length rows) out → rows ≡ take (part.last + 1 - part.first) (drop part.first lons) →
      out' ≡ lons_of (part_drawn (line_of lats lons) stops leg) ++ drop (length (part_drawn (line_of lats lons) stops leg)) out
  lons_written out p q = p ∙ rw (q, lons_drawn, length-map)
