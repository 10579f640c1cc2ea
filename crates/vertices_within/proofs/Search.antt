-- Searches over the distances from a stop: what each turn of a loop over a line does. Assumes nothing.
use Rattle.std.specs.Prelude.{Some, None}
use Prim.Native.Nat.{ℕ, zero, suc, ◌+◌, ◌-◌, ◌<◌, ◌≤◌, min}
use native.Mathlib.Omega.{arith}
use native.Mathlib.Numerals.{add-one}
use mathlib.Core.Path.{◌≡◌, sym, ◌∙◌}
use mathlib.Core.Logic.{⊎_elim}
use mathlib.Core.Bool.{true, false}
use mathlib.Core.List.{List, [], ◌∷◌, foldl}
use lib.Dec.{ltb}
use lib.Ieee.{Float, le}
use lib.ListN.{length, drop, get_or, drop_of_length-le}
use lib.Seq.{drop-cons}
use borrow.Author.Tests.{ltb-true, ltb-false}
use Rattle.ids.proofs.ByteOrder.{split}
use Rattle.ieee.specs.Number.{least_of}
use Rattle.lengths.specs.Line.{metres_of, nowhere}
use Rattle.lengths.specs.declared.line.Point.{Point}
use Rattle.vertices_within.specs.Near.{distances_of, first_within, last_within}

module _ (stop : Point) (line : List Point) where
  -- the distances from vertex k on: that of vertex k, then those of the rest
  pub from_vertex : (k : ℕ) → k < length line → distances_of stop (drop k line) ≡ metres_of stop (get_or line k nowhere) ∷ distances_of stop (drop (suc k) line)
  unfolding distances_of
  from_vertex k h = rw (drop-cons line k nowhere h)

  pub past_all : (k : ℕ) → length line ≤ k → distances_of stop (drop k line) ≡ []
  unfolding distances_of
  past_all k h = rw (drop_of_length-le line h)

  -- the least
  pub least_next : (best : Float) (k : ℕ) → k < length line →
      foldl least_of best (distances_of stop (drop k line)) ≡ foldl least_of (least_of best (metres_of stop (get_or line k nowhere))) (distances_of stop (drop (k + 1) line))
  least_next best k h = rw (add-one, from_vertex k h)

  pub least_over : (best : Float) (k : ℕ) → length line ≤ k → foldl least_of best (distances_of stop (drop k line)) ≡ best
  least_over best k h = rw (past_all k h)

  module _ (most : Float) where
    -- the first that is small enough
    pub first_hit : (k : ℕ) → k < length line → le (metres_of stop (get_or line k nowhere)) most ≡ true → first_within most k (distances_of stop (drop k line)) ≡ Some k
    unfolding first_within
    first_hit k h t = rw (from_vertex k h, t)

    pub first_miss : (k : ℕ) → k < length line → le (metres_of stop (get_or line k nowhere)) most ≡ false →
        first_within most k (distances_of stop (drop k line)) ≡ first_within most (k + 1) (distances_of stop (drop (k + 1) line))
    unfolding first_within
    first_miss k h f = rw (add-one, from_vertex k h, f)

    pub first_over : (k : ℕ) → length line ≤ k → first_within most k (distances_of stop (drop k line)) ≡ None
    unfolding first_within
    first_over k h = rw (past_all k h)

    -- those that are not are passed over
    pub first_skip : (c at : ℕ) → ((j : ℕ) → at ≤ j → j < at + c → le (metres_of stop (get_or line j nowhere)) most ≡ false) →
        first_within most at (distances_of stop (drop at line)) ≡ first_within most (at + c) (distances_of stop (drop (at + c) line))
    first_skip zero at h = let e : at ≡ at + 0 = omega arith in rw (← e)
    first_skip (suc c) at h =
        let e : at + suc c ≡ at + 1 + c = omega arith in
        rw e (⊎_elim (λ t. first_miss at (ltb-true at (length line) t) (h at (omega arith) (omega arith))) (λ f. over (ltb-false at (length line) f)) (split (ltb at (length line)))
        ∙ first_skip c (at + 1) (λ j a b. h j (omega arith) (omega arith)))
      where
        over : length line ≤ at → first_within most at (distances_of stop (drop at line)) ≡ first_within most (at + 1) (distances_of stop (drop (at + 1) line))
        over l = first_over at l ∙ sym (first_over (at + 1) (omega arith))

    -- the last: none from vertex k on is small enough
    abbrev pub NoneFrom : ℕ → Type 0
    NoneFrom k = last_within most k (distances_of stop (drop k line)) ≡ None

    pub none_past : (k : ℕ) → length line ≤ k → NoneFrom k
    unfolding last_within
    none_past k h = rw (past_all k h)

    pub none_before : (k : ℕ) → 0 < k → k ≤ length line → NoneFrom k → le (metres_of stop (get_or line (k - 1) nowhere)) most ≡ false → NoneFrom (k - 1)
    unfolding last_within
    none_before k a h n f = let e : suc (k - 1) ≡ k = omega arith in rw (from_vertex (k - 1) (omega arith), e, n, f)

    last_here : (k : ℕ) → k < length line → NoneFrom (suc k) → le (metres_of stop (get_or line k nowhere)) most ≡ true → last_within most k (distances_of stop (drop k line)) ≡ Some k
    unfolding last_within
    last_here k h n t = rw (from_vertex k h, n, t)

    -- what is the last from a vertex on is so from any vertex before it
    last_before : (from d k j : ℕ) → from + d ≡ k → k < length line → last_within most k (distances_of stop (drop k line)) ≡ Some j →
        last_within most from (distances_of stop (drop from line)) ≡ Some j
    unfolding last_within
    last_before from zero k j e h l = let q : from ≡ k = omega arith in rw q l
    last_before from (suc d) k j e h l = rw (from_vertex from (omega arith), last_before (suc from) d k j (omega arith) h l)

    pub last_hit : (from k : ℕ) → from < k → k ≤ length line → NoneFrom k → le (metres_of stop (get_or line (k - 1) nowhere)) most ≡ true →
        last_within most from (distances_of stop (drop from line)) ≡ Some (k - 1)
    last_hit from k a h n t =
        let e : suc (k - 1) ≡ k = omega arith in
        last_before from (k - 1 - from) (k - 1) (k - 1) (omega arith) (omega arith) (last_here (k - 1) (omega arith) (rw e n) t)

    pub last_none : (from k : ℕ) → min from (length line) ≤ k → k ≤ from → k ≤ length line → NoneFrom k → NoneFrom from
    last_none from k a b l n =
        ⊎_elim (λ t. let e : from ≡ k = omega (arith, ltb-true from (length line) t) in rw e n) (λ f. none_past from (ltb-false from (length line) f)) (split (ltb from (length line)))
