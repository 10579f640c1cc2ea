-- The months of a year: their lengths by cases, the days before them, and the leap day outside the common year's numbers.
use Prim.Native.Nat.{ℕ, zero, suc, ◌+◌, ◌<◌, ◌≤◌}
use mathlib.Core.Path.{◌≡◌, refl, ap}
use mathlib.Core.Bool.{Bool, true, false, ◌||◌}
use mathlib.Core.List.{List, [], ◌∷◌}
use mathlib.Core.Logic.{◌⊎◌, inl, inr}
use native.Mathlib.Omega.{arith}
use borrow.Author.Tests.{eqb-true, ne_eqb, leb-true, ltb-true, ltb-false}
use lib.Dec.{eqb, leb, ltb}
use lib.ListN.{get_or, take, get_or-eq_default}
use lib.Seq.{take_all}
use Rattle.gregorian.specs.Gregorian.{months, month_days, sum, days_before_month}
use Rattle.gregorian.proofs.Bools.{all, passes}

-- ---- the lengths

-- April, June, September or November
abbrev pub Thirty : ℕ → Type 0
Thirty m = (m ≡ 4) ⊎ ((m ≡ 6) ⊎ ((m ≡ 9) ⊎ (m ≡ 11)))

module _ (l : Bool) where
  pub thirty : (m : ℕ) → Thirty m → month_days l m ≡ 30
  unfolding month_days
  thirty m (inl e) = rw e
  thirty m (inr (inl e)) = rw e
  thirty m (inr (inr (inl e))) = rw e
  thirty m (inr (inr (inr e))) = rw e

  -- month 0, February, one of 30 days, or one of 31
  long : ℕ → Bool
  long m = eqb m 0 || (eqb m 2 || (eqb m 4 || (eqb m 6 || (eqb m 9 || (eqb m 11 || eqb (month_days l m) 31)))))

  longs : all long 13 ≡ true
  unfolding month_days long
  longs = refl

  pub thirty_one : (m : ℕ) → 0 < m → m ≤ 12 → (m ≡ 2 → ⊥) → (Thirty m → ⊥) → month_days l m ≡ 31
  unfolding long
  thirty_one m a b f g =
      eqb-true (month_days l m) 31
      (rw (ne_eqb m 0 (λ e. omega arith), ne_eqb m 2 f, ne_eqb m 4 (λ e. g (inl e)), ne_eqb m 6 (λ e. g (inr (inl e))), ne_eqb m 9 (λ e. g (inr (inr (inl e)))), ne_eqb m 11 (λ e. g (inr (inr (inr e)))))
      at (passes long 13 longs m (omega arith)))

  pub no_month : (m : ℕ) → 12 < m → month_days l m ≡ 0
  unfolding month_days
  no_month m h = get_or-eq_default (months l) 0 h

short : Bool → ℕ → Bool
short l m = leb (month_days l m) 31

shorts : (l : Bool) → all (short l) 13 ≡ true
unfolding month_days short
shorts true = refl
shorts false = refl

-- no month is longer than 31 days
pub days_bound : (l : Bool) (m : ℕ) → month_days l m ≤ 31
unfolding short
days_bound l m = go (ltb 12 m) refl where
  go : (t : Bool) → ltb 12 m ≡ t → month_days l m ≤ 31
  go true e = omega (arith, no_month l m (ltb-true 12 m e))
  go false e = leb-true (month_days l m) 31 (passes (short l) 13 (shorts l) m (omega (arith, ltb-false 12 m e)))

-- ---- the days before a month

sum_next : (ns : List ℕ) (m : ℕ) → sum (take (suc m) ns) ≡ sum (take m ns) + get_or ns m 0
sum_next [] zero = refl
sum_next [] (suc m) = refl
sum_next (n ∷ ns) zero = omega arith
sum_next (n ∷ ns) (suc m) = omega (arith, sum_next ns m)

sum_mono : (ns : List ℕ) (a b : ℕ) → a ≤ b → sum (take a ns) ≤ sum (take b ns)
sum_mono ns zero b h = omega arith
sum_mono ns (suc a) zero h = absurd (omega arith)
sum_mono [] (suc a) (suc b) h = omega arith
sum_mono (n ∷ ns) (suc a) (suc b) h = omega (arith, sum_mono ns a b (omega arith))

module _ (l : Bool) where
  pub month_next : (m : ℕ) → days_before_month l (suc m) ≡ days_before_month l m + month_days l m
  unfolding days_before_month month_days
  month_next m = sum_next (months l) m

  pub month_mono : (a b : ℕ) → a ≤ b → days_before_month l a ≤ days_before_month l b
  unfolding days_before_month
  month_mono a b h = sum_mono (months l) a b h

  -- past December the whole year stands before
  pub whole : (m : ℕ) → 12 < m → days_before_month l m ≡ sum (months l)
  unfolding days_before_month
  whole m h = ap sum (take_all m (months l) h)

whole_bound : (l : Bool) → sum (months l) ≤ 366
whole_bound true = omega arith
whole_bound false = omega arith

pub months_bound : (l : Bool) (m : ℕ) → days_before_month l m ≤ 366
months_bound l m = omega (arith, month_mono l m (m + 13) (omega arith), whole l (m + 13) (omega arith), whole_bound l)

-- a leap year's numbers are the common year's, and from March on one more
pub leap_day : (m : ℕ) → 2 < m → days_before_month true m ≡ days_before_month false m + 1
unfolding days_before_month
leap_day zero h = absurd (omega arith)
leap_day (suc zero) h = absurd (omega arith)
leap_day (suc (suc zero)) h = absurd (omega arith)
leap_day (suc (suc (suc m))) h = omega arith

pub no_leap_day : (m : ℕ) → m ≤ 2 → days_before_month true m ≡ days_before_month false m
unfolding days_before_month
no_leap_day zero h = refl
no_leap_day (suc zero) h = refl
no_leap_day (suc (suc zero)) h = refl
no_leap_day (suc (suc (suc m))) h = absurd (omega arith)
