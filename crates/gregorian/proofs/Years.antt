-- The days before a year: the sum over the years is a closed form; a bound; and the years in their order.
use Prim.Native.Nat.{ℕ, zero, suc, ◌+◌, ◌-◌, ◌*◌, ◌/◌, ◌%◌, ◌≤◌, ◌<◌}
use mathlib.Core.Path.{◌≡◌, refl, ap, ◌∙◌}
use mathlib.Core.Bool.{Bool, true, false, not, cond, ◌&&◌, ◌||◌}
use native.Mathlib.Omega.{arith}
use borrow.Author.Tests.{eqb-true, eqb-false, leb-true, leb-false}
use lib.Dec.{eqb, leb}
use Rattle.gregorian.specs.Gregorian.{leap, year_days, months, sum, days_before_month, days_before_year}
use Rattle.gregorian.proofs.Months.{whole}

-- 365 days for each of k years, and a leap day for every fourth but for the hundredths that are no four hundredth
abbrev total : ℕ → ℕ → ℕ → ℕ → ℕ
total k p q r = 365 * k + p - q + r

-- the days of the years 1 to k
abbrev pub closed : ℕ → ℕ
closed k = total k (k / 4) (k / 100) (k / 400)

grown : (k p q r x y z d : ℕ) → q ≤ p → y ≤ x → d + y ≡ 365 + x + z → total k p q r + d ≡ total (suc k) (p + x) (q + y) (r + z)
grown k p q r x y z d a b e = omega arith

-- one more year, by the three tests of a leap year
module _ (k : ℕ) where
  fourth : (t : Bool) → eqb (suc k % 4) 0 ≡ t → suc k / 4 ≡ k / 4 + cond t 1 0
  fourth true e = omega (arith, eqb-true (suc k % 4) 0 e)
  fourth false e = omega (arith, eqb-false (suc k % 4) 0 e)

  hundredth : (t : Bool) → eqb (suc k % 100) 0 ≡ t → suc k / 100 ≡ k / 100 + cond t 1 0
  hundredth true e = omega (arith, eqb-true (suc k % 100) 0 e)
  hundredth false e = omega (arith, eqb-false (suc k % 100) 0 e)

  four_hundredth : (t : Bool) → eqb (suc k % 400) 0 ≡ t → suc k / 400 ≡ k / 400 + cond t 1 0
  four_hundredth true e = omega (arith, eqb-true (suc k % 400) 0 e)
  four_hundredth false e = omega (arith, eqb-false (suc k % 400) 0 e)

  fewer : k / 100 ≤ k / 4
  fewer = omega arith

  counted : (a b c : Bool) → eqb (suc k % 4) 0 ≡ a → eqb (suc k % 100) 0 ≡ b → eqb (suc k % 400) 0 ≡ c → closed k + cond (a && not b || c) 366 365 ≡ total (suc k) (k / 4 + cond a 1 0) (k / 100 + cond b 1 0) (k / 400 + cond c 1 0)
  counted true true true p q r = grown k _ _ _ 1 1 1 366 fewer (omega arith) refl
  counted true true false p q r = grown k _ _ _ 1 1 0 365 fewer (omega arith) refl
  counted true false true p q r = absurd (eqb-false (suc k % 100) 0 q (omega (arith, eqb-true (suc k % 400) 0 r)))
  counted true false false p q r = grown k _ _ _ 1 0 0 366 fewer (omega arith) refl
  counted false true c p q r = absurd (eqb-false (suc k % 4) 0 p (omega (arith, eqb-true (suc k % 100) 0 q)))
  counted false false true p q r = absurd (eqb-false (suc k % 4) 0 p (omega (arith, eqb-true (suc k % 400) 0 r)))
  counted false false false p q r = grown k _ _ _ 0 0 0 365 fewer (omega arith) refl

  step : (a b c : Bool) → eqb (suc k % 4) 0 ≡ a → eqb (suc k % 100) 0 ≡ b → eqb (suc k % 400) 0 ≡ c → closed k + cond (a && not b || c) 366 365 ≡ closed (suc k)
  step a b c p q r = rw (fourth a p, hundredth b q, four_hundredth c r) (counted a b c p q r)

-- the sum year by year is the closed form
years : (k : ℕ) → days_before_year (suc k) ≡ closed k
unfolding days_before_year year_days leap
years zero = refl
years (suc k) = ap (λ (n : ℕ). n + year_days (suc k)) (years k) ∙ step k (eqb (suc k % 4) 0) (eqb (suc k % 100) 0) (eqb (suc k % 400) 0) refl refl refl

less_one : (k : ℕ) → suc k - 1 ≡ k
less_one k = omega arith

pub years_before : (y : ℕ) → 0 < y → days_before_year y ≡ closed (y - 1)
years_before zero h = absurd (omega arith)
years_before (suc k) h = rw (less_one k) (years k)

pub years_bound : (y : ℕ) → days_before_year y ≤ 366 * y
unfolding days_before_year
years_bound zero = omega arith
years_bound (suc k) = omega (arith, years k)

pub year_next : (y : ℕ) → 0 < y → days_before_year (suc y) ≡ days_before_year y + year_days y
unfolding days_before_year
year_next zero h = absurd (omega arith)
year_next (suc y) h = refl

pub year_mono : (a b : ℕ) → 0 < a → a ≤ b → days_before_year a ≤ days_before_year b
year_mono a zero p h = absurd (omega arith)
year_mono a (suc b) p h = go (leb a b) refl (year_mono a b p) where
  go : (t : Bool) → leb a b ≡ t → (a ≤ b → days_before_year a ≤ days_before_year b) → days_before_year a ≤ days_before_year (suc b)
  go true e k = let l = leb-true a b e in omega (arith, k l, year_next b (omega arith))
  go false e k = let same : a ≡ suc b = omega (arith, leb-false a b e) in rw same (omega arith)

-- after December the whole year has passed
pub year_whole : (y : ℕ) → days_before_month (leap y) 13 ≡ year_days y
unfolding year_days
year_whole y = whole (leap y) 13 (omega arith) ∙ go (leap y) where
  go : (l : Bool) → sum (months l) ≡ cond l 366 365
  go true = refl
  go false = refl
