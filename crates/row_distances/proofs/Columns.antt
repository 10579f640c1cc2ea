-- Rows and their columns. Assumes nothing.
use Prim.Native.Nat.{ℕ, zero, suc, ◌<◌, min}
use native.Mathlib.Omega.{arith}
use mathlib.Core.Path.{◌≡◌, refl, ap}
use mathlib.Core.List.{List, [], ◌∷◌, ◌++◌, map}
use lib.ListN.{length, length-map, take, drop, get_or, set}
use lib.Ieee.{Float}
use Rattle.row_distances.specs.Rows.{rows_of, dist_of, mark_of, dists_in, marks_in}
use Rattle.row_distances.specs.declared.row.Distance.{Distance}

-- columns of one length are those of their rows
pub rows_count : (ds : List Float) (ms : List ℕ) → length ds ≡ length ms → length (rows_of ds ms) ≡ length ds
unfolding rows_of
rows_count [] ms e = refl
rows_count (d ∷ ds) [] e = absurd (omega arith)
rows_count (d ∷ ds) (m ∷ ms) e = ap suc (rows_count ds ms (omega arith))

pub dists_back : (ds : List Float) (ms : List ℕ) → length ds ≡ length ms → dists_in (rows_of ds ms) ≡ ds
unfolding rows_of dists_in
dists_back [] ms e = refl
dists_back (d ∷ ds) [] e = absurd (omega arith)
dists_back (d ∷ ds) (m ∷ ms) e = ap (λ (l : List Float). d ∷ l) (dists_back ds ms (omega arith))

pub marks_back : (ds : List Float) (ms : List ℕ) → length ds ≡ length ms → marks_in (rows_of ds ms) ≡ ms
unfolding rows_of marks_in
marks_back [] [] e = refl
marks_back [] (m ∷ ms) e = absurd (omega arith)
marks_back (d ∷ ds) [] e = absurd (omega arith)
marks_back (d ∷ ds) (m ∷ ms) e = ap (λ (l : List ℕ). m ∷ l) (marks_back ds ms (omega arith))

-- a row that is set, and one that is read
pub rows_set : (ds : List Float) (ms : List ℕ) (k : ℕ) (row : Distance) → rows_of (set ds k row.dist) (set ms k row.measured) ≡ set (rows_of ds ms) k row
unfolding rows_of
rows_set [] ms k row = refl
rows_set (d ∷ ds) [] zero row = refl
rows_set (d ∷ ds) [] (suc k) row = refl
rows_set (d ∷ ds) (m ∷ ms) zero row = refl
rows_set (d ∷ ds) (m ∷ ms) (suc k) row = ap (λ (l : List Distance). record { dist = d; measured = m } ∷ l) (rows_set ds ms k row)

pub rows_from : (ds : List Float) (ms : List ℕ) (k : ℕ) (x : Float) → k < length ds → k < length ms →
    drop k (rows_of ds ms) ≡ record { dist = get_or ds k x; measured = get_or ms k 0 } ∷ drop (suc k) (rows_of ds ms)
unfolding rows_of
rows_from [] ms k x h l = absurd (omega arith)
rows_from (d ∷ ds) [] k x h l = absurd (omega arith)
rows_from (d ∷ ds) (m ∷ ms) zero x h l = refl
rows_from (d ∷ ds) (m ∷ ms) (suc k) x h l = rows_from ds ms k x (omega arith) (omega arith)

-- two columns have as many rows as the shorter
pub rows_least : (ds : List Float) (ms : List ℕ) → length (rows_of ds ms) ≡ min (length ds) (length ms)
unfolding rows_of
rows_least [] ms = omega arith
rows_least (d ∷ ds) [] = omega arith
rows_least (d ∷ ds) (m ∷ ms) = omega (arith, rows_least ds ms)

-- columns of parts of rows
module _ {A B : Type 0} (f : A → B) where
  pub map-take : (n : ℕ) (xs : List A) → map f (take n xs) ≡ take n (map f xs)
  map-take zero xs = refl
  map-take (suc n) [] = refl
  map-take (suc n) (x ∷ xs) = ap (λ (l : List B). f x ∷ l) (map-take n xs)

  pub map-drop : (n : ℕ) (xs : List A) → map f (drop n xs) ≡ drop n (map f xs)
  map-drop zero xs = refl
  map-drop (suc n) [] = refl
  map-drop (suc n) (x ∷ xs) = map-drop n xs

  pub map_join : (xs ys : List A) → map f (xs ++ ys) ≡ map f xs ++ map f ys
  map_join [] ys = refl
  map_join (x ∷ xs) ys = ap (λ (l : List B). f x ∷ l) (map_join xs ys)

pub rows_take : (n : ℕ) (ds : List Float) (ms : List ℕ) → rows_of (take n ds) (take n ms) ≡ take n (rows_of ds ms)
unfolding rows_of
rows_take zero ds ms = refl
rows_take (suc n) [] ms = refl
rows_take (suc n) (d ∷ ds) [] = refl
rows_take (suc n) (d ∷ ds) (m ∷ ms) = ap (λ (l : List Distance). record { dist = d; measured = m } ∷ l) (rows_take n ds ms)

no_rows : (ds : List Float) → rows_of ds [] ≡ []
unfolding rows_of
no_rows [] = refl
no_rows (d ∷ ds) = refl

pub rows_drop : (n : ℕ) (ds : List Float) (ms : List ℕ) → rows_of (drop n ds) (drop n ms) ≡ drop n (rows_of ds ms)
unfolding rows_of
rows_drop zero ds ms = refl
rows_drop (suc n) [] ms = refl
rows_drop (suc n) (d ∷ ds) [] = no_rows (drop n ds)
rows_drop (suc n) (d ∷ ds) (m ∷ ms) = rows_drop n ds ms

-- rows are those of their columns
pub rows_back : (rows : List Distance) → rows_of (dists_in rows) (marks_in rows) ≡ rows
unfolding rows_of dists_in marks_in
rows_back [] = refl
rows_back (row ∷ rows) = ap (λ (l : List Distance). row ∷ l) (rows_back rows)

pub dists_count : (rows : List Distance) → length (dists_in rows) ≡ length rows
unfolding dists_in
dists_count rows = length-map rows dist_of

pub marks_count : (rows : List Distance) → length (marks_in rows) ≡ length rows
unfolding marks_in
marks_count rows = length-map rows mark_of
