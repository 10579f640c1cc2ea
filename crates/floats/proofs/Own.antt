-- A value that the format holds is settled by its sign and its fraction (`unique`), and its fraction rounds to it (`round_own`, `own`).
-- In units of the format's smallest value it is a whole number (`counted`). Assumes nothing.
use mathlib.Core.Path.{◌≡◌, refl, sym, ap, ◌∙◌}
use mathlib.Core.Logic.{inl, inr}
use Prim.Native.Nat.{ℕ, zero, suc, ◌+◌, ◌-◌, ◌*◌, ◌/◌, ◌%◌, ◌^◌, ◌≤◌, ◌<◌, zero-le}
use native.Mathlib.Nat.{sub-zero, le_of_eq, le_of_suc-le-suc, lt_of_lt_of_le, lt_of_le_of_lt, lt_of_not-le, lt_irrefl, mul-one, mul_comm, mul_assoc, mul_right_comm, mul-lt-mul_of_pos_right, lt_of_mul-lt-mul_right, eq_of_mul-eq-mul_right}
use native.Mathlib.Omega.{arith}
use mathlib.Core.Bool.{Bool, true, false, ◌&&◌}
use lib.IntN.{ℤ, pos, negsuc}
use lib.Dec.{T, leb, ltb, eqb, ltb→lt, leb→le}
use lib.Pow.{pow-add, pow_pos, pow-lt}
use lib.Ieee.{Float, nan, inf, fin, Format, binary32, binary64, prec, emax, low, up, down, round, fits, of_bits, to_bits}
use lib.Ieee.Digits.{back}
use lib.Ieee.Fits.{down_pos, and_l, and_r, round-fits}
use lib.Ieee.Bits.{of_bits-to_bits}
use lib.Ieee.Exact.{HasValue, round_exact}
use lib.Ieee.Nearest.{div_same}
use lib.Ieee.Scale.{finite}
use lib.Ieee.Positive.{den}
use Rattle.floats.proofs.Signed.{plus, less, Rounds}
use Rattle.floats.proofs.Order.{nought, one}

-- ---- the sign and the fraction settle the value
cross : (x y a c d e : ℕ) → 0 < c → x * c ≡ a * d → y * c ≡ a * e → x * e ≡ y * d
cross x y a c d e C p q = eq_of_mul-eq-mul_right c C (x * e) (y * d) (mul_right_comm x e c ∙ ap (λ (z : ℕ). z * e) p ∙ mul_right_comm a d e ∙ ap (λ (z : ℕ). z * d) (sym q) ∙ mul_right_comm y c d)

scaled : (x y d e l : ℕ) → x * e ≡ y * d → x * l * e ≡ y * l * d
scaled x y d e l h = mul_right_comm x l e ∙ ap (λ (z : ℕ). z * l) h ∙ mul_right_comm y d l

bits_same : (f : Format) (x y : Float) (s : Bool) (a c : ℕ) → 0 < c → HasValue x s a c → HasValue y s a c → to_bits f x ≡ to_bits f y
unfolding to_bits
bits_same f nan y s a c C h k = absurd h
bits_same f (inf t) y s a c C h k = absurd h
bits_same f (fin t m e) nan s a c C h k = absurd k
bits_same f (fin t m e) (inf u) s a c C h k = absurd k
bits_same f (fin t m e) (fin u n d) s a c C h k =
    let is : m * up e * 2 ^ low f / down e ≡ n * up d * 2 ^ low f / down d =
    div_same (m * up e * 2 ^ low f) (down e) (n * up d * 2 ^ low f) (down d) (down_pos e) (down_pos d) (scaled (m * up e) (n * up d) (down e) (down d) (2 ^ low f) (cross (m * up e) (n * up d) a c (down e) (down d) C h.1 k.1)) in
    rw (h.0, k.0, is)

pub unique : (f : Format) (x y : Float) (s : Bool) (a c : ℕ) → 0 < c → T (fits f x) → T (fits f y) → HasValue x s a c → HasValue y s a c → x ≡ y
unique f x y s a c C F G h k = sym (of_bits-to_bits f x F) ∙ ap (of_bits f) (bits_same f x y s a c C h k) ∙ of_bits-to_bits f y G

-- ---- what fits, in units of the format's smallest value
pow_le_back : (a l : ℕ) → 2 ^ a ≤ 2 ^ l → a ≤ l
pow_le_back a l h = le_of_suc-le-suc (lt_of_not-le (λ (g : suc l ≤ a). lt_irrefl (2 ^ l) (lt_of_lt_of_le (pow-lt g) h)))

pub in_units : (m l : ℕ) (e : ℤ) → down e ≤ 2 ^ l → (j : ℕ) × (m * up e * 2 ^ l ≡ m * 2 ^ j * down e)
in_units m l (pos a) h = (a + l, mul_assoc m (2 ^ a) (2 ^ l) ∙ ap (λ (z : ℕ). m * z) (sym (pow-add 2 a l)) ∙ sym (mul-one (m * 2 ^ (a + l))))
in_units m l (negsuc a) h = (
  l - suc a,
  ap (λ (z : ℕ). z * 2 ^ l) (mul-one m) ∙ ap (λ (z : ℕ). m * z) (ap (λ (z : ℕ). 2 ^ z) (sym (back l (suc a) (pow_le_back (suc a) l h))) ∙ pow-add 2 (l - suc a) (suc a)) ∙ sym (mul_assoc m (2 ^ (l - suc a)) (2 ^ suc a)),
)

pub fits_bounds : (f : Format) (s : Bool) (m : ℕ) (e : ℤ) → T (fits f (fin s (suc m) e)) → (suc m < 2 ^ prec f) × (down e ≤ 2 ^ low f) × (suc m * up e < 2 ^ suc (emax f) * down e)
unfolding fits
fits_bounds f s m e h =
    let A = eqb (suc m % 2) 1 in
    let B = ltb (suc m) (2 ^ prec f) in
    let C = leb (down e) (2 ^ low f) in
    let D = ltb (suc m * up e) (2 ^ suc (emax f) * down e) in (
      ltb→lt (suc m) (2 ^ prec f) (and_r A B (and_l (A && B) C (and_l (A && B && C) D h))),
      leb→le (down e) (2 ^ low f) (and_r (A && B) C (and_l (A && B && C) D h)),
      ltb→lt (suc m * up e) (2 ^ suc (emax f) * down e) (and_r (A && B && C) D h),
    )

-- which multiple of the smallest value x is, as a difference
pub counted : (f : Format) (x : Float) → T (fits f x) → T (finite x) → (p n : ℕ) × (plus x * 2 ^ low f ≡ p * den x) × (less x * 2 ^ low f ≡ n * den x)
counted f nan F q = absurd q
counted f (inf s) F q = absurd q
counted f (fin false zero e) F q = (0, 0, omega arith, omega arith)
counted f (fin true zero e) F q = (0, 0, omega arith, omega arith)
counted f (fin false (suc m) e) F q = let k = in_units (suc m) (low f) e (fits_bounds f false m e F).1 in (suc m * 2 ^ k.0, 0, k.1, omega arith)
counted f (fin true (suc m) e) F q = let k = in_units (suc m) (low f) e (fits_bounds f true m e F).1 in (0, suc m * 2 ^ k.0, omega arith, k.1)

-- ---- what fits rounds to itself
pub round_own : (f : Format) (s : Bool) (m : ℕ) (e : ℤ) → T (fits f (fin s m e)) → round f s (m * up e) (down e) ≡ fin s m e
round_own f s zero e F =
    unique f (round f s (zero * up e) (down e)) (fin s zero e) s (zero * up e) (down e) (down_pos e) (round-fits f s (zero * up e) (down e)) F
    (round_exact f s (zero * up e) (down e) 0 0 (down_pos e) (pow_pos (prec f)) (pow_pos (low f + suc (emax f))) (none (up e) (2 ^ low f) (down e))) (refl, refl)
  where
    none : (a b c : ℕ) → 0 * a * b ≡ 0 * 2 ^ 0 * c
    none a b c = omega arith
round_own f s (suc m) e F =
    let n = suc m in
    let h = fits_bounds f s m e F in
    let k = in_units n (low f) e h.1 in
    let fine : n * 2 ^ k.0 < 2 ^ (low f + suc (emax f)) = lt_of_mul-lt-mul_right (down e)
    (lt_of_le_of_lt (le_of_eq (sym k.1)) (lt_of_lt_of_le (mul-lt-mul_of_pos_right h.2 (pow_pos (low f))) (le_of_eq (mul_right_comm (2 ^ suc (emax f)) (down e) (2 ^ low f) ∙ ap (λ (z : ℕ). z * down e) (mul_comm (2 ^ suc (emax f)) (2 ^ low f) ∙ sym (pow-add 2 (low f) (suc (emax f)))))))) in
    unique f (round f s (n * up e) (down e)) (fin s n e) s (n * up e) (down e) (down_pos e) (round-fits f s (n * up e) (down e)) F
    (round_exact f s (n * up e) (down e) n k.0 (down_pos e) h.0 fine k.1) (refl, refl)

pub own : (f : Format) (x : Float) → T (fits f x) → T (finite x) → Rounds f x (plus x) (less x) (den x)
own f nan F p = absurd p
own f (inf s) F p = absurd p
own f (fin false m e) F p = inl (zero-le, sym (ap (λ (z : ℕ). round f false z (down e)) (sub-zero (m * up e)) ∙ round_own f false m e F))
own f (fin true m e) F p = inr (zero-le, sym (ap (λ (z : ℕ). round f true z (down e)) (sub-zero (m * up e)) ∙ round_own f true m e F))

-- ---- zero and one fit
pub nought-fits : (f : Format) → T (fits f nought)
unfolding fits
nought-fits f = tt

pub one_fits : (f : Format) → T (fits f one)
unfolding fits
one_fits binary32 = tt
one_fits binary64 = tt
