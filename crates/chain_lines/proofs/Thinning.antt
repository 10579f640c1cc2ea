-- A pass over rows keeps the points that are thinned, one by one. Assumes nothing.
use Rattle.std.specs.Prelude.{Option, Some, None}
use Prim.Native.Nat.{ℕ, zero, suc, ◌+◌, ◌≤◌}
use native.Mathlib.Omega.{arith}
use native.Mathlib.Numerals.{add-one}
use mathlib.Core.Path.{◌≡◌, refl, sym, ap, ◌∙◌}
use mathlib.Core.Bool.{Bool, true, false, not, cond}
use mathlib.Core.List.{List, [], ◌∷◌, ◌++◌, append-nil, map, map-append}
use lib.ListN.{length, length-append}
use borrow.Author.Tests.{lt-ltb}
use Rattle.lengths.specs.Line.{nowhere}
use Rattle.lengths.specs.declared.line.Point.{Point}
use Rattle.chain_stretches.specs.Near.{is_near}
use Rattle.chain_lines.specs.Thin.{thin_after, thinned}
use Rattle.chain_lines.specs.Stops.{point_or, points_of, points_below}
use Rattle.chain_lines.specs.Kept.{is_dropped, is_kept, after_of, last_or, last_of, row_kept}

-- one more point after those that are thinned
thin_more : (p : Point) (qs : List Point) (q : Point) → thin_after p (qs ++ (q ∷ [])) ≡ thin_after p qs ++ cond (is_near (last_or p (thin_after p qs)) q) [] (q ∷ [])
unfolding thin_after last_or
thin_more p [] q = refl
thin_more p (r ∷ rs) q = go (is_near p r) (thin_more p rs q) (thin_more r rs q) where
  go : (b : Bool) → thin_after p (rs ++ (q ∷ [])) ≡ thin_after p rs ++ cond (is_near (last_or p (thin_after p rs)) q) [] (q ∷ []) →
      thin_after r (rs ++ (q ∷ [])) ≡ thin_after r rs ++ cond (is_near (last_or r (thin_after r rs)) q) [] (q ∷ []) →
      cond b (thin_after p (rs ++ (q ∷ []))) (r ∷ thin_after r (rs ++ (q ∷ [])))
      ≡ cond b (thin_after p rs) (r ∷ thin_after r rs) ++ cond (is_near (last_or p (cond b (thin_after p rs) (r ∷ thin_after r rs))) q) [] (q ∷ [])
  go true x y = x
  go false x y = ap (λ (l : List Point). r ∷ l) y

thinned_more : (ps : List Point) (q : Point) → thinned (ps ++ (q ∷ [])) ≡ thinned ps ++ cond (is_dropped (last_of (thinned ps)) q) [] (q ∷ [])
unfolding thinned thin_after is_dropped last_or
thinned_more [] q = refl
thinned_more (p ∷ ps) q = rw (lt-ltb 0 (suc (length (thin_after p ps))) (omega arith)) (ap (λ (l : List Point). p ∷ l) (thin_more p ps q))

turned : (b : Bool) (l : List Point) → cond b [] l ≡ cond (not b) l []
turned true l = refl
turned false l = refl

-- one more stop
stop_more : (ps : List Point) (s : Option Point) → thinned (ps ++ points_of s) ≡ thinned ps ++ cond (is_kept (last_of (thinned ps)) s) (point_or s ∷ []) []
stop_more ps (Some q) = thinned_more ps q ∙ ap (λ (l : List Point). thinned ps ++ l) (turned (is_dropped (last_of (thinned ps)) q) (q ∷ []))
stop_more ps None = ap thinned (append-nil ps) ∙ sym (append-nil (thinned ps))

last_one : (d p : Point) (ks : List Point) → last_or d (ks ++ (p ∷ [])) ≡ p
unfolding last_or
last_one d p [] = refl
last_one d p (k ∷ ks) = last_one k p ks

-- what is kept last, after one more
last_more : (ks : List Point) (s : Option Point) (keep : Bool) → last_of (ks ++ cond keep (point_or s ∷ []) []) ≡ after_of (last_of ks) s keep
last_more ks s true = rw (last_one nowhere (point_or s) ks, length-append ks (point_or s ∷ []))
last_more ks s false = rw (append-nil ks)

module _ (stop : ℕ → Option Point) where
  -- what is kept of the first n rows
  abbrev pub kept_below : ℕ → List Point
  kept_below n = thinned (points_below stop n)

  row_more : (n : ℕ) → kept_below (suc n) ≡ kept_below n ++ cond (row_kept stop n) (point_or (stop n) ∷ []) []
  unfolding points_below
  row_more n = stop_more (points_below stop n) (stop n)

  pub last_row : (n : ℕ) → last_of (kept_below (n + 1)) ≡ after_of (last_of (kept_below n)) (stop n) (row_kept stop n)
  last_row n = rw (add-one n, row_more n) (last_more (kept_below n) (stop n) (row_kept stop n))

  one_or_none : (b : Bool) (p : Point) → length (cond b (p ∷ []) []) ≤ 1
  one_or_none true p = omega arith
  one_or_none false p = omega arith

  -- no more than there are rows
  pub at_most : (n : ℕ) → length (kept_below n) ≤ n
  unfolding points_below thinned
  at_most zero = omega arith
  at_most (suc n) =
      let b = row_kept stop n in
      rw (row_more n, length-append (kept_below n) (cond b (point_or (stop n) ∷ []) [])) (omega (arith, at_most n, one_or_none b (point_or (stop n))))

-- the numbers below n that pass a test, in order
unfoldable pub rows : (ℕ → Bool) → ℕ → List ℕ
rows q zero = []
rows q (suc n) = rows q n ++ cond (q n) (n ∷ []) []

-- what is kept are the points of the rows that are
module _ (stop : ℕ → Option Point) where
  abbrev pub point_at : ℕ → Point
  point_at i = point_or (stop i)

  at_row : (b : Bool) (n : ℕ) → map point_at (cond b (n ∷ []) []) ≡ cond b (point_at n ∷ []) []
  at_row true n = refl
  at_row false n = refl

  pub kept_rows : (n : ℕ) → kept_below stop n ≡ map point_at (rows (row_kept stop) n)
  unfolding points_below thinned rows
  kept_rows zero = refl
  kept_rows (suc n) =
      let b = row_kept stop n in
      row_more stop n
      ∙ ap (λ (l : List Point). l ++ cond b (point_at n ∷ []) []) (kept_rows n)
      ∙ sym (map-append point_at (rows (row_kept stop) n) (cond b (n ∷ []) []) ∙ ap (λ (l : List Point). map point_at (rows (row_kept stop) n) ++ l) (at_row b n))
