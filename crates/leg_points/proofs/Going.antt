-- Stops drawn one by one. Assumes nothing.
use Rattle.std.specs.Prelude.{Option, Some, None}
use Prim.Native.Nat.{ℕ, suc, ◌+◌, ◌-◌, ◌<◌, ◌≤◌}
use native.Mathlib.Omega.{arith}
use mathlib.Core.Path.{◌≡◌, refl, sym, ap, ◌∙◌}
use mathlib.Core.List.{List, [], ◌++◌}
use lib.Ieee.{Float}
use lib.ListN.{length, drop}
use lib.Seq.{take-nil, drop-nil}
use Rattle.lengths.specs.declared.line.Point.{Point}
use Rattle.point_columns.specs.Drawn.{next_of, later_of, drawn_from, lats_of, lons_of, lat_put, lon_put, row_after}
use Rattle.point_columns.proofs.Writing.{Drawn, starts, goes_on, ends, lat_ends, lon_ends}
use Rattle.trip_vertices.specs.Vertices.{positions_from}
use Rattle.leg_points.specs.Leg.{stops_drawn}
use Rattle.leg_parts.specs.Parts.{ends_of, apart}
use Rattle.leg_parts.specs.declared.ends.Ends.{Ends}
use Rattle.leg_points.proofs.Positions.{part}
use Rattle.leg_parts.proofs.Offsets.{in_order, of_trip}

row_most : (drawn : Option Point) (k : ℕ) → row_after drawn k ≤ k + 1
row_most (Some p) k = omega arith
row_most None k = omega arith

module _ (position : ℕ → Option Point) (row rows : ℕ) (lat₀ lon₀ : List Float) where
  -- where the loop stands after k rows
  pub record Going (lat lon : List Float) (last : Option Point) (at k : ℕ) : Type 0 where
    pub so_far : k ≤ rows
    pub no_more : at ≤ k
    pub drawn : Drawn apart (drawn_from apart None (positions_from position row rows)) lat₀ lon₀ (positions_from position (row + k) (rows - k)) lat lon last at

  pub start : Going lat₀ lon₀ None 0 0
  start =
      let z : row + 0 ≡ row = omega arith in
      let m : rows - 0 ≡ rows = omega arith in
      record { so_far = omega arith; no_more = omega arith; drawn = rw (z, m) (starts apart (positions_from position row rows) lat₀ lon₀) }

  module _ {lat lon : List Float} {last : Option Point} {at k : ℕ} (f : Going lat lon last at k) where
    pub more : k < rows → {point : Option Point} → point ≡ next_of apart last (position (row + k)) →
        {lat' lon' : List Float} {last' : Option Point} {at' : ℕ} → lat' ≡ lat_put lat at point → lon' ≡ lon_put lon at point → last' ≡ later_of last point → at' ≡ row_after point at →
        Going lat' lon' last' at' (k + 1)
    unfolding positions_from
    more h {point} e p q l r =
        let i : rows - k ≡ suc (rows - (k + 1)) = omega arith in
        let j : row + (k + 1) ≡ suc (row + k) = omega arith in
        rw (p, q, l, r)
        (record {
          so_far = omega arith;
          no_more = omega (arith, row_most point at, f.no_more);
          drawn = rw j (goes_on apart (position (row + k)) (rw i at f.drawn) e);
        })

    module _ (h : rows ≤ k) where
      over : Drawn apart (drawn_from apart None (positions_from position row rows)) lat₀ lon₀ (positions_from position (row + k) 0) lat lon last at
      over = let i : rows - k ≡ 0 = omega arith in rw i at f.drawn

      pub counted : at ≡ length (drawn_from apart None (positions_from position row rows))
      unfolding positions_from
      counted = ends apart over

      pub lat_done : at ≤ length lat₀ → lat ≡ lats_of (drawn_from apart None (positions_from position row rows)) ++ drop at lat₀
      unfolding positions_from
      lat_done = lat_ends apart over

      pub lon_done : at ≤ length lon₀ → lon ≡ lons_of (drawn_from apart None (positions_from position row rows)) ++ drop at lon₀
      unfolding positions_from
      lon_done = lon_ends apart over

-- what is to be drawn, by the rows
module _ (position : ℕ → Option Point) (first count from to : ℕ) where
  pub nothing_drawn : count ≡ 0 → stops_drawn (positions_from position first count) (ends_of count from to) ≡ []
  unfolding stops_drawn positions_from drawn_from
  nothing_drawn e = rw (e, drop-nil, take-nil)

  pub drawn_rows : {leg : Ends} → leg ≡ ends_of count from to → 0 < count →
      drawn_from apart None (positions_from position (first + leg.board) (leg.alight - leg.board + 1)) ≡ stops_drawn (positions_from position first count) (ends_of count from to)
  unfolding stops_drawn
  drawn_rows {leg} e h =
      let o = in_order count from to e in
      let t = of_trip count from to e h in
      let n : suc leg.alight - leg.board ≡ leg.alight - leg.board + 1 = omega arith in
      rw (← e, n, part position first count leg.board (leg.alight - leg.board + 1) (omega arith))
