-- Whole numbers as floats keep their order, and up to 2 ^ prec they are exact. Twice a value that fits is exact too, as long as it is finite:
-- it has the value's sign and twice its fraction. So it does not matter which factor of a product is doubled.
use mathlib.Core.Path.{◌≡◌, refl, sym, ap, ◌∙◌}
use mathlib.Core.Logic.{inl, inr}
use Prim.Native.Nat.{ℕ, zero, suc, ◌+◌, ◌*◌, ◌^◌, ◌≤◌, ◌<◌, suc-le-suc}
use native.Mathlib.Nat.{le_trans, le_of_eq, mul-le-mul_right, mul-one, pow-suc, one-mul, mul-lt-mul_of_pos_right, lt_of_mul-lt-mul_right, mul-pos, mul-mul-mul_comm}
use native.Mathlib.Omega.{arith}
use mathlib.Core.Bool.{Bool, true, false}
use lib.IntN.{ℤ, pos, negsuc}
use lib.Signed.{le_z, ◌≤ℤ◌}
use lib.Dec.{T, leb→le}
use lib.Pow.{pow_pos, pow-add}
use lib.Ieee.{Float, nan, inf, fin, Format, binary32, binary64, prec, emax, low, up, down, unlike, round, neg, mul, of_int, fits, lt, le}
use lib.Ieee.Fits.{down_pos}
use lib.Ieee.Exact.{HasValue, round_exact}
use lib.Ieee.Back.{round_whole}
use lib.Ieee.Order.{round_mono}
use lib.Ieee.Scale.{finite, round_same}
use lib.Ieee.Positive.{num, den, den_pos}
use Rattle.floats.proofs.Signed.{le_or_lt, neg-le, neg-round, round_sign, signs_le}
use Rattle.floats.proofs.Order.{nought, one, round_nonneg, lt_of_lt-le, le-finite}
use Rattle.floats.proofs.Own.{round_own, one_fits, in_units, fits_bounds}
use Rattle.floats.proofs.Products.{negative, one_pos}

-- ---- the order
pub int_mono : (f : Format) (a b : ℕ) → a ≤ b → T (le (of_int f (pos a)) (of_int f (pos b)))
unfolding of_int
int_mono f a b h = round_mono f a 1 b 1 (pow_pos 0) (pow_pos 0) (mul-le-mul_right 1 h)

pub int_mono_signed : (f : Format) (a b : ℤ) → a ≤ℤ b → T (le (of_int f a) (of_int f b))
int_mono_signed f a b h = go a b h.le
  where
    go : (a b : ℤ) → T (le_z a b) → T (le (of_int f a) (of_int f b))
    go (pos a) (pos b) h = int_mono f a b (leb→le a b h)
    go (pos a) (negsuc b) h = absurd h
    go (negsuc a) (pos b) h = unfold of_int in signs_le (round f true (suc a) 1) (round f false b 1) (round_sign f true (suc a) 1) (round_sign f false b 1)
    go (negsuc a) (negsuc b) h = unfold of_int in rw (← neg-round f (suc a) 1, ← neg-round f (suc b) 1)
        (neg-le (round f false (suc b) 1) (round f false (suc a) 1) (round_mono f (suc b) 1 (suc a) 1 (pow_pos 0) (pow_pos 0) (mul-le-mul_right 1 (suc-le-suc (leb→le b a h)))))

-- ---- the value
pub int_exact : (f : Format) (n : ℕ) → n ≤ 2 ^ prec f → HasValue (of_int f (pos n)) false n 1
unfolding of_int
int_exact f n h = round_whole f false n h

pub int_one : (f : Format) → of_int f (pos 1) ≡ one
unfolding of_int
int_one f = round_own f false 1 (pos 0) (one_fits f)

-- ---- zero or more, one or more, and finite
pub int_nonneg : (f : Format) (n : ℕ) → T (le nought (of_int f (pos n)))
unfolding of_int
int_nonneg f n = round_nonneg f n 1

pub int_ge_one : (f : Format) (n : ℕ) → 1 ≤ n → T (le one (of_int f (pos n)))
int_ge_one f n h = rw (int_one f) at (int_mono f 1 n h)

pub int_pos : (f : Format) (n : ℕ) → 1 ≤ n → T (lt nought (of_int f (pos n)))
int_pos f n h = lt_of_lt-le nought one (of_int f (pos n)) one_pos (int_ge_one f n h)

wide : (f : Format) → T (finite (of_int f (pos (2 ^ 64))))
unfolding of_int round
wide binary32 = tt
wide binary64 = tt

pub int_finite : (f : Format) (n : ℕ) → n ≤ 2 ^ 64 → T (finite (of_int f (pos n)))
int_finite f n h = le-finite (of_int f (pos n)) (of_int f (pos (2 ^ 64))) (int_nonneg f n) (int_mono f n (2 ^ 64) h) (wide f)

-- ---- doubling
abbrev pub two : Float
two = fin false 1 (pos 1)

-- 2 ^ (emax + 1) is past the largest value
overflows : (f : Format) → round f false (2 ^ suc (emax f)) 1 ≡ inf false
unfolding round
overflows binary32 = refl
overflows binary64 = refl

past_top : (x : Float) → T (le (inf false) x) → T (finite x) → ⊥
unfolding le
past_top nan h p = p
past_top (inf s) h p = p
past_top (fin s m e) h p = h

neg-finite_back : (x : Float) → T (finite (neg x)) → T (finite x)
unfolding neg
neg-finite_back nan h = h
neg-finite_back (inf s) h = h
neg-finite_back (fin s m e) h = tt

finite_clear : (f : Format) (s : Bool) (a c : ℕ) → T (finite (round f s a c)) → T (finite (round f false a c))
finite_clear f false a c h = h
finite_clear f true a c h = neg-finite_back (round f false a c) (rw (neg-round f a c) h)

-- what rounds to a finite value is below 2 ^ (emax + 1)
rounded_lt : (f : Format) (s : Bool) (a c : ℕ) → 0 < c → T (finite (round f s a c)) → a < 2 ^ suc (emax f) * c
rounded_lt f s a c C h = elim (le_or_lt (2 ^ suc (emax f) * c) a) [
  | inl g ↦ absurd (past_top (round f false a c) (rw (overflows f) at (round_mono f (2 ^ suc (emax f)) 1 a c (pow_pos 0) C (le_trans g (le_of_eq (sym (mul-one a)))))) (finite_clear f s a c h))
  | inr g ↦ g
]

twice : (a l M P d : ℕ) → a * l ≡ M * P * d → 2 * a * l ≡ M * (P * 2) * d
twice a l M P d h = omega arith

small : (a l w W d : ℕ) → 0 < l → 2 * a * l ≡ W * d → 2 * a < w * d → W < l * w
small a l w W d L i h = lt_of_mul-lt-mul_right d (omega (arith, mul-lt-mul_of_pos_right h L))

double_round : (f : Format) (s t : Bool) (m : ℕ) (e : ℤ) → T (fits f (fin t m e)) → T (finite (round f s (2 * (m * up e)) (down e))) → HasValue (round f s (2 * (m * up e)) (down e)) s (2 * (m * up e)) (down e)
double_round f s t zero e F h = round_exact f s (2 * (zero * up e)) (down e) 0 0 (down_pos e) (pow_pos (prec f)) (pow_pos (low f + suc (emax f))) (none (up e) (2 ^ low f) (down e))
  where
    none : (a b c : ℕ) → 2 * (0 * a) * b ≡ 0 * 2 ^ 0 * c
    none a b c = omega arith
double_round f s t (suc m) e F h =
    let a = suc m * up e in
    let p = fits_bounds f t m e F in
    let k = in_units (suc m) (low f) e p.1 in
    let i : 2 * a * 2 ^ low f ≡ suc m * 2 ^ suc k.0 * down e = rw (pow-suc 2 k.0) (twice a (2 ^ low f) (suc m) (2 ^ k.0) (down e) k.1) in
    let fine : suc m * 2 ^ suc k.0 < 2 ^ (low f + suc (emax f)) =
    rw (pow-add 2 (low f) (suc (emax f))) (small a (2 ^ low f) (2 ^ suc (emax f)) (suc m * 2 ^ suc k.0) (down e) (pow_pos (low f)) i (rounded_lt f s (2 * a) (down e) (down_pos e) h)) in
    round_exact f s (2 * a) (down e) (suc m) (suc k.0) (down_pos e) p.0 fine i

double_is : (f : Format) (s : Bool) (m : ℕ) (e : ℤ) → mul f two (fin s m e) ≡ round f s (2 * (m * up e)) (down e)
unfolding mul
double_is f false m e = ap (λ (c : ℕ). round f false (2 * (m * up e)) c) (one-mul (down e))
double_is f true m e = ap (λ (c : ℕ). round f true (2 * (m * up e)) c) (one-mul (down e))

pub double_exact : (f : Format) (x : Float) → T (fits f x) → T (finite x) → T (finite (mul f two x)) → HasValue (mul f two x) (negative x) (2 * num x) (den x)
double_exact f nan F p h = absurd p
double_exact f (inf s) F p h = absurd p
double_exact f (fin s m e) F p h = rw (double_is f s m e) (double_round f s s m e F (rw (double_is f s m e) at h))

-- ---- a product is settled by its factors' signs and fractions
own_value : (x : Float) → T (finite x) → HasValue x (negative x) (num x) (den x)
own_value nan p = absurd p
own_value (inf s) p = absurd p
own_value (fin s m e) p = (refl, refl)

pub product_is : (f : Format) (x y : Float) (s t : Bool) (a b c d : ℕ) → 0 < c → 0 < d → HasValue x s a c → HasValue y t b d → mul f x y ≡ round f (unlike s t) (a * b) (c * d)
unfolding mul
product_is f nan y s t a b c d C D h k = absurd h
product_is f (inf u) y s t a b c d C D h k = absurd h
product_is f (fin u m e) nan s t a b c d C D h k = absurd k
product_is f (fin u m e) (inf v) s t a b c d C D h k = absurd k
product_is f (fin u m e) (fin v n i) s t a b c d C D h k =
    rw (h.0, k.0)
    (round_same f (unlike s t) (m * up e * (n * up i)) (down e * down i) (a * b) (c * d) (mul-pos (down_pos e) (down_pos i)) (mul-pos C D)
    (cross (m * up e) (n * up i) (down e) (down i) h.1 k.1))
  where
    cross : (p q g j : ℕ) → p * c ≡ a * g → q * d ≡ b * j → p * q * (c * d) ≡ a * b * (g * j)
    cross p q g j h k = mul-mul-mul_comm p q c d ∙ ap (λ (z : ℕ). z * (q * d)) h ∙ ap (λ (z : ℕ). a * g * z) k ∙ mul-mul-mul_comm a g b j

-- ---- it does not matter which factor is doubled, where both doubles are finite
pub double_either : (f : Format) (x y : Float) → T (fits f x) → T (fits f y) → T (finite x) → T (finite y) → T (finite (mul f two x)) → T (finite (mul f two y)) → mul f x (mul f two y) ≡ mul f (mul f two x) y
double_either f x y F G p q h k =
    product_is f x (mul f two y) (negative x) (negative y) (num x) (2 * num y) (den x) (den y) (den_pos x) (den_pos y) (own_value x p) (double_exact f y G q k)
    ∙ ap (λ (a : ℕ). round f (unlike (negative x) (negative y)) a (den x * den y)) (moved (num x) (num y))
    ∙ sym (product_is f (mul f two x) y (negative x) (negative y) (2 * num x) (num y) (den x) (den y) (den_pos x) (den_pos y) (double_exact f x F p h) (own_value y q))
  where
    moved : (a b : ℕ) → a * (2 * b) ≡ 2 * a * b
    moved a b = omega arith
