-- A drawing as it goes: in parts, and when all positions are drawn. Assumes nothing.
use Rattle.std.specs.Prelude.{Option, Some, None}
use Prim.Native.Nat.{ℕ, suc, ◌+◌, ◌≤◌}
use native.Mathlib.Omega.{arith}
use mathlib.Core.Path.{◌≡◌, refl}
use mathlib.Core.Bool.{Bool}
use mathlib.Core.List.{List, [], ◌∷◌, ◌++◌, foldl-append}
use lib.Ieee.{Float}
use lib.ListN.{length, drop}
use Rattle.lengths.specs.declared.line.Point.{Point}
use Rattle.point_columns.specs.Drawn.{next_of, row_after, drawn_from, lats_of, lons_of}
use Rattle.point_columns.specs.Sheet.{Sheet, sheet, draw_one, draw_all}
use Rattle.point_columns.proofs.Writing.{Drawn, starts, goes_on, ends, lat_ends, lon_ends}

pub row_most : (drawn : Option Point) (k : ℕ) → row_after drawn k ≤ k + 1
row_most (Some p) k = omega arith
row_most None k = omega arith

module _ (differ : Point → Point → Bool) where
  -- the positions of both parts, one after the other
  pub in_parts : (s : Sheet) (xs ys : List (Option Point)) → draw_all differ s (xs ++ ys) ≡ draw_all differ (draw_all differ s xs) ys
  unfolding draw_all
  in_parts s xs ys = foldl-append (draw_one differ) s xs ys

  -- no more rows are taken than there are positions
  pub one_most : (s : Sheet) (x : Option Point) → (draw_one differ s x).at ≤ s.at + 1
  unfolding draw_one
  one_most s x = row_most (next_of differ s.last x) s.at

  pub all_most : (s : Sheet) (xs : List (Option Point)) → (draw_all differ s xs).at ≤ s.at + length xs
  unfolding draw_all
  all_most s [] = omega arith
  all_most s (x ∷ xs) = omega (arith, one_most s x, all_most (draw_one differ s x) xs)

  through : {points : List Point} {lat₀ lon₀ : List Float} (rest : List (Option Point)) (s : Sheet) → Drawn differ points lat₀ lon₀ rest s.lat s.lon s.last s.at →
      Drawn differ points lat₀ lon₀ [] (draw_all differ s rest).lat (draw_all differ s rest).lon (draw_all differ s rest).last (draw_all differ s rest).at
  unfolding draw_all draw_one
  through [] s f = f
  through (x ∷ xs) s f = through xs (draw_one differ s x) (goes_on differ x f refl)

  -- all positions drawn from the start
  module _ (stops : List (Option Point)) (lat lon : List Float) where
    pub counted : (draw_all differ (sheet lat lon None 0) stops).at ≡ length (drawn_from differ None stops)
    counted = ends differ (through stops (sheet lat lon None 0) (starts differ stops lat lon))

    pub lat_done : (draw_all differ (sheet lat lon None 0) stops).at ≤ length lat →
        (draw_all differ (sheet lat lon None 0) stops).lat ≡ lats_of (drawn_from differ None stops) ++ drop (draw_all differ (sheet lat lon None 0) stops).at lat
    lat_done = lat_ends differ (through stops (sheet lat lon None 0) (starts differ stops lat lon))

    pub lon_done : (draw_all differ (sheet lat lon None 0) stops).at ≤ length lon →
        (draw_all differ (sheet lat lon None 0) stops).lon ≡ lons_of (drawn_from differ None stops) ++ drop (draw_all differ (sheet lat lon None 0) stops).at lon
    lon_done = lon_ends differ (through stops (sheet lat lon None 0) (starts differ stops lat lon))
