-- What a turn of each loop over a line's squares does. Assumes nothing.
use Prim.Native.Nat.{ℕ, suc, ◌+◌, ◌<◌, ◌≤◌}
use native.Mathlib.Numerals.{add-one}
use mathlib.Core.Path.{◌≡◌}
use mathlib.Core.Bool.{true, false}
use mathlib.Core.List.{List, [], ◌∷◌, foldl}
use lib.Ieee.{Float, le}
use lib.ListN.{length, drop, drop_of_length-le}
use lib.Seq.{drop-cons}
use Rattle.ieee.specs.Number.{least_of}
use Rattle.roots.specs.Root.{root_of}
use Rattle.lengths.specs.Line.{nowhere}
use Rattle.lengths.specs.declared.line.Point.{Point}
use Rattle.line_parts.specs.Part.{at}
use Rattle.nearest.specs.Squares.{square_of, squares_of, first_near}

module _ (stop : Point) (line : List Point) where
  from_vertex : (k : ℕ) → k < length line → squares_of stop (drop k line) ≡ square_of (at line k) stop ∷ squares_of stop (drop (suc k) line)
  unfolding squares_of
  from_vertex k h = rw (drop-cons line k nowhere h)

  past_all : (k : ℕ) → length line ≤ k → squares_of stop (drop k line) ≡ []
  unfolding squares_of
  past_all k h = rw (drop_of_length-le line h)

  pub least_next : (best : Float) (k : ℕ) → k < length line →
      foldl least_of best (squares_of stop (drop k line)) ≡ foldl least_of (least_of best (square_of (at line k) stop)) (squares_of stop (drop (k + 1) line))
  least_next best k h = rw (add-one, from_vertex k h)

  pub least_over : (best : Float) (k : ℕ) → length line ≤ k → foldl least_of best (squares_of stop (drop k line)) ≡ best
  least_over best k h = rw (past_all k h)

  module _ (distance : Float) where
    pub near_hit : (k : ℕ) → k < length line → le (root_of (square_of (at line k) stop)) distance ≡ true → first_near distance k (squares_of stop (drop k line)) ≡ k
    unfolding first_near
    near_hit k h t = rw (from_vertex k h, t)

    pub near_miss : (k : ℕ) → k < length line → le (root_of (square_of (at line k) stop)) distance ≡ false →
        first_near distance k (squares_of stop (drop k line)) ≡ first_near distance (k + 1) (squares_of stop (drop (k + 1) line))
    unfolding first_near
    near_miss k h f = rw (add-one, from_vertex k h, f)

    pub near_over : (k : ℕ) → length line ≤ k → first_near distance k (squares_of stop (drop k line)) ≡ 0
    unfolding first_near
    near_over k h = rw (past_all k h)
