-- Days go up with dates: of two dates, the one with the larger number is the later day.
use Prim.Native.Nat.{ℕ, suc, ◌+◌, ◌-◌, ◌<◌, ◌≤◌}
use mathlib.Core.Path.{◌≡◌, refl}
use mathlib.Core.Bool.{Bool, true, false}
use native.Mathlib.Omega.{arith}
use borrow.Author.Tests.{le-ltb, lt-ltb, ltb-false, ltb-true}
use lib.Dec.{ltb}
use lib.IntN.{sub_ℕ}
use lib.Signed.{lt_z}
use Rattle.days.specs.Days.{year_of, month_of, day_in_month, is_date, ordinal, day_of}
use Rattle.gregorian.specs.Gregorian.{leap, year_days, days_before_month}
use Rattle.gregorian.proofs.Months.{month_next, month_mono}
use Rattle.days.proofs.Ordinals.{place, Parts, parts}
use Rattle.day_counts.proofs.Signed.{not_below, not_both}
use Rattle.gregorian.proofs.Years.{year_next, year_mono, year_whole}

-- a day of a month is before the next month, and a day of a year before the next year
month_end : (n : ℕ) → Parts n → (m : ℕ) → month_of n < m → days_before_month (leap (year_of n)) (month_of n) + day_in_month n ≤ days_before_month (leap (year_of n)) m
month_end n p m h =
    let l = leap (year_of n) in
    omega (arith, p.day_high, month_next l (month_of n), month_mono l (suc (month_of n)) m h)

year_end : (n : ℕ) → Parts n → days_before_month (leap (year_of n)) (month_of n) + day_in_month n ≤ year_days (year_of n)
year_end n p = rw (← year_whole (year_of n)) (month_end n p 13 (omega (arith, p.month_high)))

module _ (a b : ℕ) (p : Parts a) (q : Parts b) (h : a < b) where
  later_year : year_of a < year_of b → ordinal a < ordinal b
  unfolding ordinal
  later_year k = omega (arith, year_end a p, year_next (year_of a) p.year_low, year_mono (suc (year_of a)) (year_of b) (omega arith) k, q.day_low)

  same_year : year_of b ≡ year_of a → ordinal a < ordinal b
  unfolding ordinal
  same_year e = rw e (go (ltb (month_of a) (month_of b)) refl) where
    go : (t : Bool) → ltb (month_of a) (month_of b) ≡ t → place (year_of a) (month_of a) (day_in_month a) < place (year_of a) (month_of b) (day_in_month b)
    go true f = omega (arith, month_end a p (month_of b) (ltb-true (month_of a) (month_of b) f), q.day_low)
    go false f = let same : month_of b ≡ month_of a = omega (arith, ltb-false (month_of a) (month_of b) f) in rw same (omega arith)

  ordinal_ascends : ordinal a < ordinal b
  ordinal_ascends = go (ltb (year_of a) (year_of b)) refl where
    go : (t : Bool) → ltb (year_of a) (year_of b) ≡ t → ordinal a < ordinal b
    go true e = later_year (ltb-true (year_of a) (year_of b) e)
    go false e = same_year (omega (arith, ltb-false (year_of a) (year_of b) e))

-- day numbers keep the ordinals' order
days_ascend : (k x y : ℕ) → x < y → lt_z (sub_ℕ x k) (sub_ℕ y k) ≡ true
days_ascend k x y h = go (ltb x k) refl (ltb y k) refl where
  go : (s : Bool) → ltb x k ≡ s → (t : Bool) → ltb y k ≡ t → lt_z (sub_ℕ x k) (sub_ℕ y k) ≡ true
  go true e true f = rw (e, f) (lt-ltb (k - suc y) (k - suc x) (omega (arith, ltb-true x k e, ltb-true y k f)))
  go true e false f = rw (e, f) refl
  go false e true f = absurd (omega (arith, ltb-false x k e, ltb-true y k f))
  go false e false f = rw (e, f) (lt-ltb (x - k) (y - k) (omega (arith, ltb-false x k e, ltb-false y k f)))

-- of two dates the larger number is the later day
pub ascends : (a b : ℕ) → is_date a ≡ true → is_date b ≡ true → a < b → lt_z (day_of a) (day_of b) ≡ true
unfolding day_of
ascends a b p q h = days_ascend 719163 (ordinal a) (ordinal b) (ordinal_ascends a b (parts a p) (parts b q) h)

-- so comparing dates by their numbers is comparing their ordinals
module _ (a b : ℕ) (p : is_date a ≡ true) (q : is_date b ≡ true) where
  pub ordinal_order : ltb (ordinal a) (ordinal b) ≡ ltb a b
  ordinal_order = go (ltb a b) refl (ltb b a) refl where
    go : (s : Bool) → ltb a b ≡ s → (t : Bool) → ltb b a ≡ t → ltb (ordinal a) (ordinal b) ≡ s
    go true e t f = lt-ltb (ordinal a) (ordinal b) (ordinal_ascends a b (parts a p) (parts b q) (ltb-true a b e))
    go false e true f = let h : ordinal b < ordinal a = ordinal_ascends b a (parts b q) (parts a p) (ltb-true b a f) in le-ltb (ordinal a) (ordinal b) (omega arith)
    go false e false f = let same : a ≡ b = omega (arith, ltb-false a b e, ltb-false b a f) in rw same (le-ltb (ordinal b) (ordinal b) (omega arith))

-- and their days
module _ (a b : ℕ) (p : is_date a ≡ true) (q : is_date b ≡ true) where
  pub same_order : lt_z (day_of a) (day_of b) ≡ ltb a b
  same_order = go (ltb a b) refl (ltb b a) refl where
    go : (s : Bool) → ltb a b ≡ s → (t : Bool) → ltb b a ≡ t → lt_z (day_of a) (day_of b) ≡ s
    go true e t f = ascends a b p q (ltb-true a b e)
    go false e true f = not_both (day_of b) (day_of a) (ascends b a q p (ltb-true b a f))
    go false e false f = let same : a ≡ b = omega (arith, ltb-false a b e, ltb-false b a f) in rw same (not_below (day_of b))
