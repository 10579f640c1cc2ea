-- The square root is the machine's, of each float that fits binary64: `Marks` at the scale 2 ^ 1196.
use mathlib.Core.Path.{◌≡◌, refl, sym, ap, ◌∙◌}
use Prim.Native.Nat.{ℕ, zero, suc, ◌+◌, ◌-◌, ◌*◌, ◌/◌, ◌%◌, ◌^◌, ◌≤◌, ◌<◌}
use native.Mathlib.Nat.{le_trans, mul-one, one-mul, pow-suc, mul-div_left, lt_of_not-le, not-le_of_lt, le_of_suc-le-suc, mul-pos, mul-le-mul, mul-le-mul_right, le_of_mul-le-mul_right}
use native.Mathlib.Omega.{arith}
use mathlib.Core.Bool.{Bool, true, false, ◌&&◌, cond}
use lib.Arith.{lt_of_le-ne}
use lib.IntN.{ℤ, pos, negsuc}
use lib.Dec.{T, eqb, leb, ltb, eqb→eq, leb→le, lit<}
use lib.Pow.{pow-add, pow_pos, pow_mono}
use lib.Ieee.{Float, nan, inf, fin, binary64, up, down, size, round, root_below, root_twice, sqrt, fits}
use lib.Ieee.Fits.{eq→eqb, down_pos, and_l, and_r}
use lib.Ieee.Root.{whole_part}
use Rattle.roots.specs.Root.{round_root, root_of}
use Rattle.roots.proofs.Whole.{square_le_back, square_lt_back}
use Rattle.roots.proofs.Marks.{Mark, round_root_is}

-- r is the whole root of N, and N / (4 * c * c) is n / d
module _ (c n d N r : ℕ) (C : 0 < c) (D : 0 < d) (E : N * d ≡ 4 * n * (c * c)) (lo : r * r ≤ N) (hi : N < (r + 1) * (r + 1)) where
  down_to : (h : ℕ) → h * c * (h * c) ≤ N → h * h * d ≤ 4 * n
  down_to h l = le_of_mul-le-mul_right {k = c * c} (omega (arith, E, mul-le-mul_right d l)) (mul-pos C C)

  up_to : (h : ℕ) → h * h * d ≤ 4 * n → h * c * (h * c) ≤ N
  up_to h l = le_of_mul-le-mul_right {k = d} (omega (arith, E, mul-le-mul_right (c * c) l)) D

  from_above : (h : ℕ) → N ≤ h * c * (h * c) → 4 * n ≤ h * h * d
  from_above h l = le_of_mul-le-mul_right {k = c * c} (omega (arith, E, mul-le-mul_right d l)) (mul-pos C C)

  to_above : (h : ℕ) → 4 * n ≤ h * h * d → N ≤ h * c * (h * c)
  to_above h l = le_of_mul-le-mul_right {k = d} (omega (arith, E, mul-le-mul_right (c * c) l)) D

  to_root : (x : ℕ) → x * x ≤ N → x ≤ r
  to_root x l = front (square_lt_back x (r + 1) (omega arith))
    where
      front : x < r + 1 → x ≤ r
      front g = omega arith

  of_root : (x : ℕ) → x ≤ r → x * x ≤ N
  of_root x l = omega (arith, mul-le-mul l l)

  over_root : (x : ℕ) → r < x → N ≤ x * x
  over_root x l = omega (arith, mul-le-mul {n₁ = r + 1} {m₁ = r + 1} {n₂ = x} {m₂ = x} (omega arith) (omega arith))

  exact : r * r ≡ N → Mark c (2 * r + 0) n d
  exact e = record {
    reaches = λ h l. down_to h (of_root (h * c) (omega arith));
    reached = λ h l. omega (arith, to_root (h * c) (up_to h l));
    under = λ h l. from_above h (omega (arith, e, mul-le-mul {n₁ = r} {m₁ = r} {n₂ = h * c} {m₂ = h * c} (omega arith) (omega arith)));
    over = λ h l. omega (arith, square_le_back r (h * c) (omega (arith, e, to_above h l)));
  }

  between : r * r < N → Mark c (2 * r + 1) n d
  between g = record {
    reaches = λ h l. down_to h (of_root (h * c) (omega arith));
    reached = λ h l. omega (arith, to_root (h * c) (up_to h l));
    under = λ h l. from_above h (over_root (h * c) (omega arith));
    over = λ h l. omega (arith, square_lt_back r (h * c) (omega (arith, to_above h l)));
  }

  pub twice_is : Mark c (2 * r + cond (eqb (r * r) N) 0 1) n d
  twice_is = go (eqb (r * r) N) (eqb→eq (r * r) N) (λ (e : r * r ≡ N). eq→eqb e)
    where
      go : (b : Bool) → (T b → r * r ≡ N) → (r * r ≡ N → T b) → Mark c (2 * r + cond b 0 1) n d
      go true x y = exact (x tt)
      go false x y = between (lt_of_le-ne lo y)

-- ---- a number of the format divides 2 ^ 4542
Part : ℕ → Type 0
Part d = (D : ℕ) × (D * d ≡ 2 ^ 4542)

small_power : (k : ℕ) → 2 ^ k ≤ 2 ^ 1074 → k ≤ 1074
small_power k h = le_of_suc-le-suc (lt_of_not-le (λ (g : 1075 ≤ k). not-le_of_lt (lit< {m = 2 ^ 1074} {n = 2 ^ 1075} tt) (le_trans (pow_mono g) h)))

part_of : (e : ℤ) → down e ≤ 2 ^ 1074 → Part (down e)
unfolding Part
part_of (pos k) h = (2 ^ 4542, mul-one (2 ^ 4542))
part_of (negsuc k) h = (2 ^ (4542 - suc k), sym (pow-add 2 (4542 - suc k) (suc k)) ∙ ap (λ (z : ℕ). 2 ^ z) (whole (small_power (suc k) h)))
  where
    whole : suc k ≤ 1074 → 4542 - suc k + suc k ≡ 4542
    whole g = omega arith

-- ---- above zero
abbrev half : ℕ
half = 2 ^ 1196

spread : (a x b d y D : ℕ) → D * d ≡ y → y ≡ 4 * x * (b * b) → a * D * d ≡ 4 * (a * x) * (b * b)
spread a x b d y D e f = omega (arith, ap (λ (z : ℕ). a * z) e, ap (λ (z : ℕ). a * z) f)

quotient : (a y d D : ℕ) → 0 < d → D * d ≡ y → a * y / d ≡ a * D
quotient a y d D P e = ap (λ (z : ℕ). z / d) (ap (λ (z : ℕ). a * z) (sym e) ∙ omega arith) ∙ mul-div_left (a * D) P

twice_root : (N c n d : ℕ) → 0 < c → 0 < d → N * d ≡ 4 * n * (c * c) → Mark c (root_twice N) n d
unfolding root_twice
twice_root N c n d C D e = let w = whole_part N in twice_is c n d N (root_below (size N) N) C D e w.0 w.1

above : (num den : ℕ) → 0 < den → Part den → round_root binary64 num den ≡ round binary64 false (root_twice (num * 2 ^ 4542 / den)) (2 ^ 2272)
unfolding Part
above num den P p =
    let N = num * 2 ^ 4542 / den in
    let q : N ≡ num * p.0 = quotient num (2 ^ 4542) den p.0 P p.1 in
    let e : N * den ≡ 4 * (num * 2 ^ 2148) * (half * half) = ap (λ (z : ℕ). z * den) q ∙ spread num (2 ^ 2148) half den (2 ^ 4542) p.0 p.1 refl in
    round_root_is binary64 half (pow_pos 1196) num den (root_twice N) P (twice_root N half (num * 2 ^ 2148) den (pow_pos 1196) P e)

-- ---- zeros that fit are written in one way
double : (a : ℕ) → a * 2 ≡ 1 → ⊥
double a h = omega arith

zero_is : (s : Bool) (e : ℤ) → up e * down e ≡ 1 → fin s zero e ≡ fin s 0 (pos 0)
zero_is s (pos zero) h = refl
zero_is s (pos (suc k)) h = absurd (double (2 ^ k) (sym (pow-suc 2 k) ∙ sym (mul-one (2 ^ suc k)) ∙ h))
zero_is s (negsuc k) h = absurd (double (2 ^ k) (sym (pow-suc 2 k) ∙ sym (one-mul (2 ^ suc k)) ∙ h))

pub root_is : (x : Float) → T (fits binary64 x) → root_of x ≡ sqrt binary64 x
unfolding root_of sqrt fits
root_is nan h = refl
root_is (inf true) h = refl
root_is (inf false) h = refl
root_is (fin s zero e) h = zero_is s e (eqb→eq (up e * down e) 1 h)
root_is (fin true (suc m) e) h = refl
root_is (fin false (suc m) e) h =
    let a = eqb (suc m % 2) 1 in
    let b = ltb (suc m) (2 ^ 53) in
    let c = leb (down e) (2 ^ 1074) in
    let t = and_l ((a && b) && c) _ h in
    above (suc m * up e) (down e) (down_pos e) (part_of e (leb→le (down e) (2 ^ 1074) (and_r (a && b) c t)))
