-- How large the stand-ins for the arcs can get. Of a tangent from 0 to 1 every coefficient of the series is within 1, each Horner step adds 1 at most, and two halvings
-- keep the tangent from 0 to 1: so the arc tangent is within 48. Whatever floats they are given, `atan2_of` and `asin_of` answer NaN or a value within 54.
-- These bounds are far from close: they say that no answer is infinite.
use mathlib.Core.Path.{◌≡◌, refl}
use mathlib.Core.Logic.{◌⊎◌, inl, inr}
use Prim.Native.Nat.{ℕ, zero, suc, ◌+◌, ◌*◌, ◌^◌, ◌≤◌, ◌<◌}
use native.Mathlib.Nat.{mul-pos, zero-lt-suc}
use native.Mathlib.Omega.{arith}
use mathlib.Core.Bool.{Bool, true, false, not, cond, ◌&&◌, ◌||◌}
use lib.IntN.{ℤ}
use lib.Dec.{T, lit≤}
use lib.Ieee.{Float, nan, inf, fin, binary64, up, down, of_int, of_bits, neg, add, sub, mul, div, lt, eq, ne, le}
use lib.Ieee.Fits.{up_pos}
use Rattle.ieee.specs.Number.{abs_of}
use Rattle.roots.specs.Root.{root_of}
use Rattle.floats.proofs.Signed.{le→below}
use Rattle.floats.proofs.Order.{nought, one, number, trans_le, not_lt-le, lt-le, le-number_right, nonneg, NonNeg, clear, minus, endless, nonneg_le, Above, some, unbounded, above}
use Rattle.floats.proofs.Own.{one_fits}
use Rattle.floats.proofs.Sums.{add_up, add_nonneg, add-number_left}
use Rattle.floats.proofs.Products.{one_pos, above_one, square_nonneg, div_nonneg, div-number, div_unit_nonneg, div_unit_le}
use Rattle.floats.proofs.Whole.{int_one, int_ge_one}
use Rattle.floats.proofs.Within.{Within, within_finite, within_number, within_neg, within_weaken, within_add, within_sub, within_mul, within_mul_unit, within_div, int_within, within→le, le→within}
use Rattle.roots.proofs.Roots.{root_number, root_nonneg}
use Rattle.maths.specs.Series.{whole, on_from, horner, sign_of, atan_c}
use Rattle.maths.specs.Trig.{pi, half_pi}
use Rattle.arcs.specs.Arcs.{halve_of, four_times, atan_of, angle_of, turned_of, atan2_of, asin_of}

-- ---- from 0 to 1
pub record InUnit (t : Float) : Type 0 where
  pub low : T (le nought t)
  pub high : T (le t one)

pub unit_within : {t : Float} → InUnit t → Within 1 t
unit_within {t} u = le→within binary64 1 t (lit≤ tt) u.low (rw (int_one binary64) u.high)

within_unit : {t : Float} → T (le nought t) → Within 1 t → InUnit t
within_unit {t} z h = record { low = z; high = rw (int_one binary64) at (within→le binary64 (lit≤ tt) h) }

unit_square : {t : Float} → InUnit t → InUnit (mul binary64 t t)
unit_square {t} u = let h = unit_within u in within_unit (square_nonneg binary64 t (within_number h)) (within_mul binary64 (lit≤ tt) h h)

-- ---- Horner sums whose coefficients are within 1
module _ (c : ℕ → Float) (small : (j : ℕ) → Within 1 (c j)) (z : Float) (u : InUnit z) where
  pub on_within : (k : ℕ) {n : ℕ} {acc : Float} → k + n ≤ 2 ^ 53 → Within n acc → Within (k + n) (on_from c z k acc)
  unfolding on_from
  on_within zero N h = within_weaken (omega arith) h
  on_within (suc k) {n} N h =
      within_weaken {n = k + (n + 1)} (omega arith)
      (on_within k {n = n + 1} (omega arith) (within_add binary64 {a = n} {b = 1} (omega arith) (within_mul_unit binary64 z (omega arith) h u.low u.high) (small k)))

  horner_within : (n : ℕ) → n + 1 ≤ 2 ^ 53 → Within (n + 1) (horner c z n)
  unfolding horner
  horner_within n N = on_within n N (small n)

-- ---- the coefficients of the arc tangent: 1 or -1, divided by 1 or more
sign_within : (j : ℕ) → Within 1 (sign_of j)
unfolding sign_of
sign_within zero = int_within binary64 1 (lit≤ tt)
sign_within (suc j) = within_neg (sign_within j)

pub coefficient_within : (j : ℕ) → Within 1 (atan_c j)
unfolding atan_c
coefficient_within j = within_div binary64 (whole (2 * j + 1)) (lit≤ tt) (sign_within j) (int_ge_one binary64 (2 * j + 1) (omega arith))

-- ---- the arc tangent of 0 to 1
halve_unit : {t : Float} → InUnit t → InUnit (halve_of t)
unfolding halve_of
halve_unit {t} u =
    let h = unit_within u in
    let s = add binary64 one (mul binary64 t t) in
    let r = root_of s in
    let d = add binary64 one r in
    let p : T (number r) = root_number s (add_nonneg binary64 one (mul binary64 t t) (lt-le nought one one_pos) (unit_square u).low) in
    let q : T (le one d) = add_up binary64 one r (one_fits binary64) (root_nonneg s p) (add-number_left binary64 one r tt p) in
    within_unit (div_nonneg binary64 t d u.low (above_one d q) (div-number binary64 t d (within_finite h) (above_one d q))) (within_div binary64 d (lit≤ tt) h q)

four_times_within : {t : Float} → InUnit t → Within 48 (four_times t)
unfolding four_times
four_times_within {t} u =
    within_mul binary64 {a = 4} {b = 12} (lit≤ tt) (int_within binary64 4 (lit≤ tt))
    (within_mul binary64 {a = 1} {b = 12} (lit≤ tt) (unit_within u) (horner_within atan_c coefficient_within (mul binary64 t t) (unit_square u) 11 (lit≤ tt)))

pub atan_within : {t : Float} → InUnit t → Within 48 (atan_of t)
unfolding atan_of
atan_within u = four_times_within (halve_unit (halve_unit u))

-- ---- a value within n, or NaN
abbrev pub Bounded : ℕ → Float → Type 0
Bounded n x = (x ≡ nan) ⊎ Within n x

-- ---- the lesser of two sizes by the greater is from 0 to 1, but for 0 / 0 and for an infinity by an infinity
data Zero : Float → Type 0 where
  zero_of : (s : Bool) (e : ℤ) → Zero (fin s 0 e)

zero_is : {x : Float} → NonNeg x → T (le x nought) → Zero x
zero_is (clear zero e) h = zero_of false e
zero_is (clear (suc m) e) h = absurd (never (suc m * up e) (down e) (mul-pos (zero-lt-suc m) (up_pos e)) (le→below (fin false (suc m) e) nought tt tt h))
  where
    never : (a c : ℕ) → 0 < a → a * 1 + 0 * c ≤ 0 * c + 0 * 1 → ⊥
    never a c p h = omega arith
zero_is (minus e) h = zero_of true e
zero_is endless h = unfold le lt eq in absurd h

by_zero : {x y : Float} → Zero x → Zero y → div binary64 x y ≡ nan
unfolding div
by_zero (zero_of s e) (zero_of t d) = refl

abbrev pub InUnitOrNan : Float → Type 0
InUnitOrNan t = (t ≡ nan) ⊎ InUnit t

by_infinity : {x : Float} → NonNeg x → InUnitOrNan (div binary64 x (inf false))
unfolding div le lt eq
by_infinity (clear m e) = inr (record { low = tt; high = tt })
by_infinity (minus e) = inr (record { low = tt; high = tt })
by_infinity endless = inl refl

pub ratio : (x y : Float) → T (le nought x) → T (le x y) → InUnitOrNan (div binary64 x y)
ratio x y z h = go (lt nought y) (λ (k : T (lt nought y)). k) (λ (k : T (not (lt nought y))). not_lt-le nought y tt (le-number_right x y h) k)
  where
    positive : {y : Float} → Above y → T (le x y) → T (lt nought y) → InUnitOrNan (div binary64 x y)
    positive (some n d p) h k = inr (record { low = div_unit_nonneg binary64 x (fin false n d) z h k tt; high = div_unit_le binary64 x (fin false n d) z h k tt })
    positive unbounded h k = by_infinity (nonneg x z)

    go : (b : Bool) → (T b → T (lt nought y)) → (T (not b) → T (le y nought)) → InUnitOrNan (div binary64 x y)
    go true p q = positive (above y (p tt)) h (p tt)
    go false p q = inl (by_zero (zero_is (nonneg x z) (trans_le x y nought h (q tt))) (zero_is (nonneg y (trans_le nought x y z h)) (q tt)))

atan_bounded : {t : Float} → InUnitOrNan t → Bounded 48 (atan_of t)
atan_bounded (inl e) = inl (rw e atan_nan)
  where
    atan_nan : atan_of nan ≡ nan
    atan_nan = unfold atan_of four_times halve_of of_int mul div in refl
atan_bounded (inr u) = inr (atan_within u)

-- ---- taken from a value within m, and turned round
less_bounded : {m n : ℕ} {x y : Float} → m + n ≤ 2 ^ 53 → Within m x → Bounded n y → Bounded (m + n) (sub binary64 x y)
less_bounded {x} N h (inl e) = inl (rw e (from_number x (within_number h)))
  where
    from_number : (x : Float) → T (number x) → sub binary64 x nan ≡ nan
    from_number nan p = absurd p
    from_number (inf s) p = unfold sub add neg in refl
    from_number (fin s m e) p = unfold sub add neg in refl
less_bounded N h (inr k) = inr (within_sub binary64 N h k)

neg_bounded : {n : ℕ} {x : Float} → Bounded n x → Bounded n (neg x)
neg_bounded (inl e) = inl (rw e (unfold neg in refl))
neg_bounded (inr h) = inr (within_neg h)

pub bounded_weaken : {m n : ℕ} {x : Float} → m ≤ n → Bounded m x → Bounded n x
bounded_weaken k (inl e) = inl e
bounded_weaken k (inr h) = inr (within_weaken k h)

-- ---- the angle for two sizes, and the quarter that it is brought to
half_pi_within : Within 2 half_pi
unfolding of_bits
half_pi_within = record { is_finite = tt; small = lit≤ tt }

pi_within : Within 4 pi
unfolding of_bits
pi_within = record { is_finite = tt; small = lit≤ tt }

angle_bounded : (a b : Float) → T (le nought a) → T (le nought b) → Bounded 50 (angle_of a b)
unfolding angle_of
angle_bounded a b p q = go (lt b a) (λ (h : T (lt b a)). lt-le b a h) (λ (h : T (not (lt b a))). not_lt-le b a (le-number_right nought b q) (le-number_right nought a p) h)
  where
    go : (t : Bool) → (T t → T (le b a)) → (T (not t) → T (le a b)) → Bounded 50 (cond t (sub binary64 half_pi (atan_of (div binary64 b a))) (atan_of (div binary64 a b)))
    go true h k = less_bounded (lit≤ tt) half_pi_within (atan_bounded (ratio b a q (h tt)))
    go false h k = bounded_weaken (lit≤ tt) (atan_bounded (ratio a b p (k tt)))

turned_bounded : (y x a : Float) → Bounded 50 a → Bounded 54 (turned_of y x a)
unfolding turned_of
turned_bounded y x a h = outer (lt y nought) (inner (lt x nought))
  where
    inner : (t : Bool) → Bounded 54 (cond t (sub binary64 pi a) a)
    inner true = less_bounded (lit≤ tt) pi_within h
    inner false = bounded_weaken (lit≤ tt) h

    outer : (t : Bool) {b : Float} → Bounded 54 b → Bounded 54 (cond t (neg b) b)
    outer true k = neg_bounded k
    outer false k = k

-- ---- for all floats
pub abs_nonneg : (x : Float) → T (not (ne x x)) → T (le nought (abs_of x))
abs_nonneg nan h = unfold ne eq in absurd h
abs_nonneg (inf s) h = unfold abs_of le lt eq in tt
abs_nonneg (fin s m e) h = unfold abs_of in nonneg_le (clear m e)

pub atan2_bounded : (y x : Float) → Bounded 54 (atan2_of y x)
unfolding atan2_of
atan2_bounded y x = go (ne y y) (ne x x) (eq y nought && eq x nought) (abs_nonneg y) (abs_nonneg x)
  where
    zero_or : (t : Bool) {a : Float} → Bounded 54 a → Bounded 54 (cond t nought a)
    zero_or true h = inr (record { is_finite = tt; small = lit≤ tt })
    zero_or false h = h

    go : (n m t : Bool) → (T (not n) → T (le nought (abs_of y))) → (T (not m) → T (le nought (abs_of x))) → Bounded 54 (cond (n || m) nan (cond t nought (turned_of y x (angle_of (abs_of y) (abs_of x)))))
    go true m t p q = inl refl
    go false true t p q = inl refl
    go false false t p q = zero_or t (turned_bounded y x (angle_of (abs_of y) (abs_of x)) (angle_bounded (abs_of y) (abs_of x) (p tt) (q tt)))

pub asin_bounded : (s : Float) → Bounded 54 (asin_of s)
unfolding asin_of
asin_bounded s = atan2_bounded s (root_of (sub binary64 one (mul binary64 s s)))
