-- A quotient of two whole numbers below 2 ^ 32, in binary64, is the nearest float to it; where it is strictly between 0 and 1 it keeps 2 ^ -32 from both, and
-- so does one less it. Assumes nothing.
use Prim.Native.Nat.{ℕ, zero, suc, ◌*◌, ◌<◌, ◌≤◌}
use native.Mathlib.Nat.{le_trans, lt_irrefl, mul-pos}
use native.Mathlib.Omega.{arith}
use mathlib.Core.Path.{◌≡◌, refl, ap}
use mathlib.Core.Bool.{Bool, true, false, cond}
use lib.Dec.{T, eqb-suc-zero, lit≤, lit<}
use lib.Ieee.{Float, nan, inf, fin, Format, binary64, up, down, round, sub, div, lt, le}
use lib.Ieee.Exact.{HasValue}
use lib.Ieee.Fits.{up_pos, down_pos}
use lib.Ieee.Order.{round_mono}
use lib.Ieee.Scale.{round_same}
use Rattle.floats.specs.Number.{nought, one}
use Rattle.floats.proofs.Order.{number, le-number_left, le-number_right, lt-le, lt_not_le, lt_of_lt-le, lt_of_le-lt}
use Rattle.floats.proofs.Sums.{sub-number_left, sub_anti}
use Rattle.floats.proofs.Whole.{int_exact}
use Rattle.ieee.specs.Number.{clamp01_of}
use Rattle.maths.specs.Series.{whole}

-- ---- the quotient of two whole numbers
value_quotient : (f : Format) (x y : Float) (a b : ℕ) → 0 < b → HasValue x false a 1 → HasValue y false b 1 → div f x y ≡ round f false a b
unfolding div
value_quotient f nan y a b B h k = absurd h
value_quotient f (inf u) y a b B h k = absurd h
value_quotient f (fin u m e) nan a b B h k = absurd k
value_quotient f (fin u m e) (inf v) a b B h k = absurd k
value_quotient f (fin u m e) (fin v zero i) a b B h k = absurd (lt_irrefl 0 (omega (arith, mul-pos B (down_pos i), k.1)))
value_quotient f (fin u m e) (fin v (suc n) i) a b B h k =
    rw (h.0, k.0, eqb-suc-zero n)
    (round_same f false (m * up e * down i) (suc n * up i * down e) a b (mul-pos (mul-pos (omega arith) (up_pos i)) (down_pos e)) B
    (go (m * up e) (down e) (suc n * up i) (down i) h.1 k.1))
  where
    go : (p d q g : ℕ) → p * 1 ≡ a * d → q * 1 ≡ b * g → p * g * b ≡ a * (q * d)
    go p d q g s t = omega (arith, ap (λ (z : ℕ). z * (g * b)) s, ap (λ (z : ℕ). z * (a * d)) t)

pub whole_quotient : (a b : ℕ) → a ≤ 4294967296 → 0 < b → b ≤ 4294967296 → div binary64 (whole a) (whole b) ≡ round binary64 false a b
whole_quotient a b A B C = value_quotient binary64 (whole a) (whole b) a b B (int_exact binary64 a (le_trans A (lit≤ tt))) (int_exact binary64 b (le_trans C (lit≤ tt)))

-- ---- strictly between 0 and 1
-- 2 ^ -32, and one less it
abbrev pub least : Float
least = round binary64 false 1 4294967296

abbrev pub most : Float
most = round binary64 false 4294967295 4294967296

least_pos : T (lt nought least)
unfolding round lt
least_pos = tt

most_below : T (lt most one)
unfolding round lt
most_below = tt

least_turned : sub binary64 one least ≡ most
unfolding round sub
least_turned = refl

most_turned : sub binary64 one most ≡ least
unfolding round sub
most_turned = refl

-- a float keeps that from 0 and from 1
pub record Inside (x : Float) : Type 0 where
  pub low : T (le least x)
  pub high : T (le x most)

module _ (x : Float) (i : Inside x) where
  pub inside_pos : T (lt nought x)
  inside_pos = lt_of_lt-le nought least x least_pos i.low

  pub inside_below : T (lt x one)
  inside_below = lt_of_le-lt x most one i.high most_below

  one_less_number : T (number (sub binary64 one x))
  one_less_number = sub-number_left binary64 one x tt (le-number_right least x i.low)

  pub inside_turned : Inside (sub binary64 one x)
  inside_turned = record {
    low = rw (← most_turned) (sub_anti binary64 one x most one_less_number (sub-number_left binary64 one most tt (le-number_right x most i.high)) i.high);
    high = rw (← least_turned) (sub_anti binary64 one least x (sub-number_left binary64 one least tt (le-number_left least x i.low)) one_less_number i.low);
  }

  pub inside_clamped : clamp01_of x ≡ x
  unfolding clamp01_of
  inside_clamped = go (lt x nought) (lt one x) (λ h. lt_not_le x nought h (lt-le nought x inside_pos)) (λ h. lt_not_le one x h (lt-le x one inside_below))
    where
      go : (a b : Bool) → (T a → ⊥) → (T b → ⊥) → cond a nought (cond b one x) ≡ x
      go true b f g = absurd (f tt)
      go false true f g = absurd (g tt)
      go false false f g = refl

pub inside_quotient : (a b : ℕ) → 0 < a → a < b → b ≤ 4294967296 → Inside (div binary64 (whole a) (whole b))
inside_quotient a b A h B = rw (whole_quotient a b (omega arith) (omega arith) B) (record {
  low = round_mono binary64 1 4294967296 a b (lit< tt) (omega arith) (omega arith);
  high = round_mono binary64 a b 4294967295 4294967296 (omega arith) (lit< tt) (omega arith);
})
