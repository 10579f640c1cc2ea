-- The least of some distances, and of those with one more before them: what a turn of a loop does that looks at a line from its end. Assumes nothing.
use Prim.Native.Nat.{ℕ, suc, ◌-◌, ◌<◌, ◌≤◌, min}
use native.Mathlib.Omega.{arith}
use mathlib.Core.Path.{◌≡◌, refl, sym, ◌∙◌}
use mathlib.Core.Logic.{⊎_elim}
use mathlib.Core.Bool.{Bool, true, false, cond}
use mathlib.Core.List.{List, [], ◌∷◌, foldl}
use lib.Dec.{T, ltb}
use lib.Ieee.{Float, nan, inf, fin, lt, eq, le}
use lib.ListN.{length, drop, get_or}
use borrow.Author.Tests.{ltb-true, ltb-false}
use Rattle.floats.proofs.Order.{number, top, lt-le, lt_not_le, not_lt-le, trans_le, lt_of_lt-le, le-number_left}
use Rattle.ids.proofs.ByteOrder.{split}
use Rattle.ieee.specs.Number.{least_of}
use Rattle.lengths.specs.Line.{metres_of, nowhere}
use Rattle.lengths.specs.declared.line.Point.{Point}
use Rattle.vertices_within.specs.Near.{distances_of, least_in}
use Rattle.vertices_within.proofs.Truth.{holds, fails, no, yes}
use Rattle.vertices_within.proofs.Search.{from_vertex, past_all}

-- infinity gives way to any number
from_top : (x : Float) → T (number x) → least_of (inf false) x ≡ x
unfolding least_of lt
from_top nan h = absurd h
from_top (inf true) h = refl
from_top (inf false) h = refl
from_top (fin s m e) h = refl

least_number : (b x : Float) → T (number b) → T (number (least_of b x))
unfolding least_of
least_number b x h = go (lt x b) refl
  where
    go : (t : Bool) → lt x b ≡ t → T (number (cond t x b))
    go true e = le-number_left x b (lt-le x b (holds e))
    go false e = h

pub fold_number : (b : Float) (ds : List Float) → T (number b) → T (number (foldl least_of b ds))
fold_number b [] h = h
fold_number b (x ∷ ds) h = fold_number (least_of b x) ds (least_number b x h)

-- of three numbers, the first that is least, whichever two are taken first
least_of_three : (b x l : Float) → T (number b) → T (number x) → T (number l) → least_of (least_of b x) l ≡ least_of b (least_of x l)
unfolding least_of
least_of_three b x l B X L = go (lt x b) refl (lt l x) refl
  where
    go : (p : Bool) → lt x b ≡ p → (q : Bool) → lt l x ≡ q → cond (lt l (cond p x b)) l (cond p x b) ≡ cond (lt (cond q l x) b) (cond q l x) b
    go true p true q = rw (q, yes (lt l b) (lt_of_lt-le l x b (holds q) (lt-le x b (holds p))))
    go true p false q = rw (q, p)
    go false p true q = refl
    go false p false q = rw (p, no (lt l b) (λ (h : T (lt l b)). lt_not_le l b h (trans_le b x l (not_lt-le x b X B (fails p)) (not_lt-le l x L X (fails q)))))

-- the least of distances is a number
pub is_number : (ds : List Float) → T (number (least_in ds))
unfolding least_in
is_number ds = fold_number (inf false) ds tt

-- a fold from b is b, or the least where that is less
fold_least : (b : Float) (ds : List Float) → T (number b) → foldl least_of b ds ≡ least_of b (least_in ds)
unfolding least_in
fold_least b [] B = unfold least_of in rw (no (lt (inf false) b) (λ (h : T (lt (inf false) b)). lt_not_le (inf false) b h (top b B)))
fold_least b (x ∷ ds) B =
    fold_least (least_of b x) ds (least_number b x B) ∙ go x ∙ sym (rw (fold_least (least_of (inf false) x) ds (least_number (inf false) x tt)))
  where
    go : (x : Float) → least_of (least_of b x) (least_in ds) ≡ least_of b (least_of (least_of (inf false) x) (least_in ds))
    go nan = unfold least_of lt in rw (from_top (least_in ds) (is_number ds))
    go (inf s) = rw (from_top (inf s) tt) (least_of_three b (inf s) (least_in ds) B tt (is_number ds))
    go (fin s m e) = rw (from_top (fin s m e) tt) (least_of_three b (fin s m e) (least_in ds) B tt (is_number ds))

-- a number before them: it is the least where it is no more than the least of them
lesser_of : (x l : Float) → T (number x) → T (number l) → least_of x l ≡ cond (le x l) x l
unfolding least_of
lesser_of x l X L = go (lt l x) refl
  where
    go : (t : Bool) → lt l x ≡ t → cond t l x ≡ cond (le x l) x l
    go true t = rw (no (le x l) (λ (h : T (le x l)). lt_not_le l x (holds t) h))
    go false t = rw (yes (le x l) (not_lt-le l x L X (fails t)))

fold_before : (x : Float) (ds : List Float) → least_in (x ∷ ds) ≡ least_of (least_of (inf false) x) (least_in ds)
unfolding least_in
fold_before x ds = fold_least (least_of (inf false) x) ds (least_number (inf false) x tt)

-- so with any distance
pub least_before : (x : Float) (ds : List Float) → least_in (x ∷ ds) ≡ cond (le x (least_in ds)) x (least_in ds)
least_before x ds = fold_before x ds ∙ go x
  where
    go : (x : Float) → least_of (least_of (inf false) x) (least_in ds) ≡ cond (le x (least_in ds)) x (least_in ds)
    go nan = unfold least_of lt le in from_top (least_in ds) (is_number ds)
    go (inf s) = rw (from_top (inf s) tt) (lesser_of (inf s) (least_in ds) tt (is_number ds))
    go (fin s m e) = rw (from_top (fin s m e) tt) (lesser_of (fin s m e) (least_in ds) tt (is_number ds))

module _ (stop : Point) (line : List Point) where
  -- the least distance from vertex k on
  abbrev pub least_from : ℕ → Float
  least_from k = least_in (distances_of stop (drop k line))

  pub least_past : (k : ℕ) → length line ≤ k → inf false ≡ least_from k
  unfolding least_in
  least_past k h = rw (past_all stop line k h)

  -- one vertex further back
  pub least_back : (k : ℕ) → 0 < k → k ≤ length line → (l : Float) → l ≡ least_from k →
      cond (le (metres_of stop (get_or line (k - 1) nowhere)) l) (metres_of stop (get_or line (k - 1) nowhere)) l ≡ least_from (k - 1)
  least_back k a h l e =
      let q : suc (k - 1) ≡ k = omega arith in
      rw (e, from_vertex stop line (k - 1) (omega arith), q) (sym (least_before _ _))

  -- a search that ends at k has seen all from `from` on
  pub least_all : (from k : ℕ) → min from (length line) ≤ k → k ≤ from → least_from k ≡ least_from from
  least_all from k a b =
      ⊎_elim
      (λ t. let e : k ≡ from = omega (arith, ltb-true from (length line) t) in rw e)
      (λ f. let g = ltb-false from (length line) f in sym (least_past k (omega (arith, g))) ∙ least_past from g)
      (split (ltb from (length line)))
