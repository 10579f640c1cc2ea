-- The first vertex at the root of the least square is the nearest: a root never falls as its square grows. Assumes nothing.
use Prim.Native.Nat.{ℕ, suc}
use mathlib.Core.Path.{◌≡◌, refl, ◌∙◌}
use mathlib.Core.Logic.{◌⊎◌, inl, inr}
use mathlib.Core.Bool.{Bool, true, false, true≢false, not, ◌||◌, cond}
use mathlib.Core.List.{List, [], ◌∷◌, foldl}
use lib.Dec.{T}
use lib.Ieee.{Float, nan, inf, fin, binary64, add, sub, mul, lt, eq, le}
use Rattle.floats.specs.Number.{nought}
use Rattle.floats.proofs.Order.{number, le-number_left, le-number_right, refl_le, trans_le, lt-le, not_lt-le, not_le-lt, lt_not_le, lt_of_lt-le, lt_of_le-lt}
use Rattle.floats.proofs.Signed.{or_left}
use Rattle.floats.proofs.Sums.{add_nonneg}
use Rattle.floats.proofs.Products.{square_nonneg}
use Rattle.ieee.specs.Number.{least_of}
use Rattle.roots.specs.Root.{root_of}
use Rattle.roots.proofs.Roots.{root_mono, root_number}
use Rattle.maths.specs.Trig.{hypot_of}
use Rattle.lengths.specs.declared.line.Point.{Point}
use Rattle.nearest.specs.Nearest.{largest, degrees_of, nearest_from, nearest_of}
use Rattle.nearest.specs.Squares.{square_of, squares_of, least_in, first_near, Far}

fails : (b : Bool) → (T b → ⊥) → b ≡ false
fails true h = absurd (h tt)
fails false h = refl

-- ---- the Rust's search over squares

unfoldable roots_from : ℕ → Float → ℕ → List Float → ℕ
roots_from best distance k [] = best
roots_from best distance k (s ∷ ss) = cond (lt (root_of s) distance) (roots_from k (root_of s) (suc k) ss) (roots_from best distance (suc k) ss)

by_roots : (best : ℕ) (distance : Float) (k : ℕ) (stop : Point) (line : List Point) → nearest_from best distance k stop line ≡ roots_from best distance k (squares_of stop line)
unfolding nearest_from roots_from squares_of degrees_of hypot_of square_of
by_roots best distance k stop [] = refl
by_roots best distance k stop (v ∷ line) = rw (by_roots k (degrees_of v stop) (suc k) stop line, by_roots best distance (suc k) stop line)

-- ---- no root is below a distance, and one is at most it

abbrev NoneBelow : Float → List Float → Type 0
NoneBelow d [] = Unit {0}
NoneBelow d (s ∷ ss) = (lt (root_of s) d ≡ false) × NoneBelow d ss

unfoldable any_near : Float → List Float → Bool
any_near d [] = false
any_near d (s ∷ ss) = le (root_of s) d || any_near d ss

stays : (best : ℕ) (d : Float) (k : ℕ) (ss : List Float) → NoneBelow d ss → roots_from best d k ss ≡ best
unfolding roots_from
stays best d k [] h = refl
stays best d k (s ∷ ss) h = rw h.0 (stays best d (suc k) ss h.1)

lower : (e d : Float) (ss : List Float) → T (le e d) → NoneBelow d ss → NoneBelow e ss
lower e d [] h n = tt
lower e d (s ∷ ss) h n = (fails (lt (root_of s) e) (λ q. below (lt (root_of s) d) n.0 (lt_of_lt-le (root_of s) e d q h)), lower e d ss h n.1)
  where
    below : (b : Bool) → b ≡ false → T b → ⊥
    below true p t = absurd (true≢false p)
    below false p t = t

settles : (D : Float) (best : ℕ) (d : Float) (k : ℕ) (ss : List Float) → T (lt D d) → NoneBelow D ss → T (any_near D ss) → roots_from best d k ss ≡ first_near D k ss
unfolding roots_from first_near any_near
settles D best d k [] h n a = absurd a
settles D best d k (s ∷ ss) h n a =
    let e = root_of s in
    go (le e D) (lt e d) (λ x. lt_of_le-lt e D d x h) (λ x. stays k e (suc k) ss (lower e D ss x n.1))
    (λ x y t. settles D k e (suc k) ss (not_le-lt e D (le-number_left e d (lt-le e d y)) (le-number_left D d (lt-le D d h)) x) n.1 t)
    (settles D best d (suc k) ss h n.1) a
  where
    go : (x y : Bool) → (T x → T y) → (T x → roots_from k (root_of s) (suc k) ss ≡ k) → (T (not x) → T y → T (any_near D ss) → roots_from k (root_of s) (suc k) ss ≡ first_near D (suc k) ss) →
        (T (any_near D ss) → roots_from best d (suc k) ss ≡ first_near D (suc k) ss) → T (x || any_near D ss) →
        cond y (roots_from k (root_of s) (suc k) ss) (roots_from best d (suc k) ss) ≡ cond x k (first_near D (suc k) ss)
    go true true p q r u t = q tt
    go true false p q r u t = absurd (p tt)
    go false true p q r u t = r tt tt t
    go false false p q r u t = u t

-- ---- the least square

number_left : (a b : Float) → T (number (add binary64 a b)) → T (number a)
unfolding add
number_left nan b h = absurd h
number_left (inf s) b h = tt
number_left (fin s m e) b h = tt

number_right : (a b : Float) → T (number (add binary64 a b)) → T (number b)
unfolding add
number_right nan b h = absurd h
number_right (inf s) nan h = absurd h
number_right (inf s) (inf t) h = tt
number_right (inf s) (fin t m e) h = tt
number_right (fin s n d) nan h = absurd h
number_right (fin s n d) (inf t) h = tt
number_right (fin s n d) (fin t m e) h = tt

root_number_of : (y : Float) → T (number (mul binary64 y y)) → T (number y)
unfolding mul
root_number_of nan h = absurd h
root_number_of (inf s) h = tt
root_number_of (fin s m e) h = tt

-- a square that is a number is not below zero
square_sign : (p q : Point) → T (number (square_of p q)) → T (le nought (square_of p q))
unfolding square_of
square_sign p q h =
    let y = sub binary64 p.lat q.lat in
    let x = sub binary64 p.lon q.lon in
    let a = mul binary64 y y in
    let b = mul binary64 x x in
    add_nonneg binary64 a b (square_nonneg binary64 y (root_number_of y (number_left a b h))) (square_nonneg binary64 x (root_number_of x (number_right a b h)))

-- the squares that are numbers are not below zero
abbrev Squares : List Float → Type 0
Squares [] = Unit {0}
Squares (s ∷ ss) = (T (number s) → T (le nought s)) × Squares ss

squares : (stop : Point) (line : List Point) → Squares (squares_of stop line)
unfolding squares_of
squares stop [] = tt
squares stop (v ∷ line) = (square_sign v stop, squares stop line)

least_sign : (b s : Float) → T (le nought b) → (T (number s) → T (le nought s)) → T (le nought (least_of b s))
unfolding least_of
least_sign b s h k = go (lt s b) (λ x. k (le-number_left s b (lt-le s b x)))
  where
    go : (x : Bool) → (T x → T (le nought s)) → T (le nought (cond x s b))
    go true q = q tt
    go false q = h

fold_sign : (b : Float) (ss : List Float) → T (le nought b) → Squares ss → T (le nought (foldl least_of b ss))
fold_sign b [] h k = h
fold_sign b (s ∷ ss) h k = fold_sign (least_of b s) ss (least_sign b s h k.0) k.1

least_left : (b s : Float) → T (number b) → T (le (least_of b s) b)
unfolding least_of
least_left b s n = go (lt s b) (lt-le s b)
  where
    go : (x : Bool) → (T x → T (le s b)) → T (le (cond x s b) b)
    go true q = q tt
    go false q = refl_le b n

least_right : (b s : Float) → T (number b) → T (number s) → T (le (least_of b s) s)
unfolding least_of
least_right b s n m = go (lt s b) (not_lt-le s b m n)
  where
    go : (x : Bool) → (T (not x) → T (le b s)) → T (le (cond x s b) s)
    go true q = refl_le s m
    go false q = q tt

fold_le : (b : Float) (ss : List Float) → T (number b) → T (le (foldl least_of b ss) b)
fold_le b [] n = refl_le b n
fold_le b (s ∷ ss) n =
    let l = least_left b s n in
    trans_le (foldl least_of (least_of b s) ss) (least_of b s) b (fold_le (least_of b s) ss (le-number_left (least_of b s) b l)) l

-- a root that is a number is not below that of a square which is at most its own
not_below : (m s : Float) → T (number (root_of m)) → (T (number s) → T (le m s)) → lt (root_of s) (root_of m) ≡ false
not_below m s N h = fails (lt (root_of s) (root_of m)) (go s h)
  where
    go : (s : Float) → (T (number s) → T (le m s)) → T (lt (root_of s) (root_of m)) → ⊥
    go nan h q = absurd (unfold root_of lt in q)
    go (inf b) h q = lt_not_le (root_of (inf b)) (root_of m) q (root_mono m (inf b) (h tt) N)
    go (fin b n e) h q = lt_not_le (root_of (fin b n e)) (root_of m) q (root_mono m (fin b n e) (h tt) N)

none_below : (m b : Float) (ss : List Float) → T (number b) → m ≡ foldl least_of b ss → T (number (root_of m)) → NoneBelow (root_of m) ss
none_below m b [] n e N = tt
none_below m b (s ∷ ss) n e N =
    let l = least_left b s n in
    let k = le-number_left (least_of b s) b l in
    (not_below m s N (λ x. rw e (trans_le (foldl least_of (least_of b s) ss) (least_of b s) s (fold_le (least_of b s) ss k) (least_right b s n x))), none_below m (least_of b s) ss k e N)

-- it is one of the squares, or what the fold began with
either : (m b s : Float) (ss : List Float) → T (number (root_of m)) → (m ≡ least_of b s) ⊎ T (any_near (root_of m) ss) → (m ≡ b) ⊎ T (le (root_of s) (root_of m) || any_near (root_of m) ss)
unfolding least_of
either m b s ss N (inl e) = go (lt s b) e
  where
    here : m ≡ s → T (le (root_of s) (root_of m) || any_near (root_of m) ss)
    here p = rw (← p) (or_left (le (root_of m) (root_of m)) (any_near (root_of m) ss) (refl_le (root_of m) N))

    go : (x : Bool) → m ≡ cond x s b → (m ≡ b) ⊎ T (le (root_of s) (root_of m) || any_near (root_of m) ss)
    go true p = inr (here p)
    go false p = inl p
either m b s ss N (inr a) = inr (or_right (le (root_of s) (root_of m)) (any_near (root_of m) ss) a)
  where
    or_right : (x y : Bool) → T y → T (x || y)
    or_right true y t = tt
    or_right false y t = t

attained : (m b : Float) (ss : List Float) → m ≡ foldl least_of b ss → T (number (root_of m)) → (m ≡ b) ⊎ T (any_near (root_of m) ss)
unfolding any_near
attained m b [] e N = inl e
attained m b (s ∷ ss) e N = either m b s ss N (attained m (least_of b s) ss e N)

-- ---- the nearest vertex

module _ (line : List Point) (stop : Point) where
  abbrev least : Float
  least = least_in (squares_of stop line)

  zero_inf : T (le nought (inf false))
  unfolding le lt eq
  zero_inf = tt

  root_of_least : T (number (root_of least))
  unfolding least_in
  root_of_least = root_number (foldl least_of (inf false) (squares_of stop line)) (fold_sign (inf false) (squares_of stop line) zero_inf (squares stop line))

  none_nearer : NoneBelow (root_of least) (squares_of stop line)
  unfolding least_in
  none_nearer = none_below (foldl least_of (inf false) (squares_of stop line)) (inf false) (squares_of stop line) tt refl (unfold least_in in root_of_least)

  some_near : T (lt (root_of least) largest) → T (any_near (root_of least) (squares_of stop line))
  unfolding least_in
  some_near h = go (attained (foldl least_of (inf false) (squares_of stop line)) (inf false) (squares_of stop line) refl (unfold least_in in root_of_least))
    where
      m : Float
      m = foldl least_of (inf false) (squares_of stop line)

      none : T (lt (root_of (inf false)) largest) → ⊥
      none q = unfold root_of lt in q

      go : (m ≡ inf false) ⊎ T (any_near (root_of m) (squares_of stop line)) → T (any_near (root_of m) (squares_of stop line))
      go (inl e) = absurd (none (rw e at h))
      go (inr a) = a

  pub first_is_nearest : T (lt (root_of least) largest) → first_near (root_of least) 0 (squares_of stop line) ≡ nearest_of line stop
  unfolding nearest_of
  first_is_nearest h = rw (by_roots 0 largest 0 stop line, settles (root_of least) 0 largest 0 (squares_of stop line) h none_nearer (some_near h))

  pub none_is_nearest : T (not (lt (root_of least) largest)) → 0 ≡ nearest_of line stop
  unfolding nearest_of
  none_is_nearest h =
      rw (by_roots 0 largest 0 stop line, stays 0 largest 0 (squares_of stop line) (lower largest (root_of least) (squares_of stop line) (not_lt-le (root_of least) largest root_of_least tt h) none_nearer))

-- ---- as the code has it

holds : {b : Bool} → b ≡ true → T b
holds e = rw e tt

fails_so : {b : Bool} → b ≡ false → T (not b)
fails_so e = rw e tt

module _ (line : List Point) (stop : Point) {m d : Float} (e : m ≡ least_in (squares_of stop line)) (f : d ≡ root_of m) where
  pub found : {r : ℕ} → lt d largest ≡ true → r ≡ first_near d 0 (squares_of stop line) → r ≡ nearest_of line stop
  found h p = p ∙ rw (f, e) (first_is_nearest line stop (rw (← e, ← f) (holds h)))

  pub not_found : lt d largest ≡ false → 0 ≡ nearest_of line stop
  not_found h = none_is_nearest line stop (rw (← e, ← f) (fails_so h))

-- from a square whose root is above a distance on, every root is
pub far_above : (d m r : Float) → r ≡ root_of m → lt d r ≡ true → Far d m
far_above d m r e h = λ s w.
    let t : T (lt d (root_of m)) = rw (← e) (holds h) in
    fails (le (root_of s) d) (λ q. lt_not_le d (root_of s) (lt_of_lt-le d (root_of m) (root_of s) t (root_mono m s w (le-number_right d (root_of m) (lt-le d (root_of m) t)))) q)

pub far_none : (d : Float) → Far d nan
unfolding le lt eq
far_none d s w = absurd w
