-- Days go up by one from each date to the next.
use Prim.Native.Nat.{ℕ, suc, ◌+◌, ◌*◌, ◌/◌, ◌<◌, ◌≤◌}
use mathlib.Core.Path.{◌≡◌, refl, sym, ◌∙◌}
use mathlib.Core.Bool.{Bool, true, false, cond}
use native.Mathlib.Numerals.{add-one}
use native.Mathlib.Omega.{arith}
use borrow.Author.Tests.{ltb-true, ltb-false}
use lib.Dec.{ltb}
use lib.IntN.{ℤ, pos, negsuc, ◌+ℤ◌, suc_ℤ-+ℤ, +ℤ_one}
use Rattle.days.specs.Days.{year_of, month_of, day_in_month, is_date, ordinal, day_of}
use Rattle.gregorian.specs.Gregorian.{leap, year_days, month_days, days_before_month}
use Rattle.gregorian.proofs.Months.{days_bound, month_next}
use Rattle.days.proofs.Ordinals.{place, Parts, parts}
use Rattle.gregorian.proofs.Years.{year_next, year_whole}

-- the next day of the month, or the first of the next month, or the first of the next year
abbrev pub date_after : ℕ → ℕ
date_after n =
    cond (ltb (day_in_month n) (month_days (leap (year_of n)) (month_of n)))
    (n + 1)
    (cond (ltb (month_of n) 12) ((n / 100 + 1) * 100 + 1) ((year_of n + 1) * 10000 + 101))

at_place : (n y m d : ℕ) → year_of n ≡ y → month_of n ≡ m → day_in_month n ≡ d → ordinal n ≡ place y m d
unfolding ordinal
at_place n y m d e f g = rw (e, f, g)

january : (y : ℕ) → days_before_month (leap y) 1 ≡ 0
unfolding days_before_month
january y = refl

module _ (n : ℕ) (p : Parts n) where
  within_month : day_in_month n < month_days (leap (year_of n)) (month_of n) → ordinal (n + 1) ≡ ordinal n + 1
  unfolding ordinal
  within_month h =
      let low : day_in_month n < 31 = omega (arith, days_bound (leap (year_of n)) (month_of n)) in
      at_place (n + 1) (year_of n) (month_of n) (day_in_month n + 1) (omega arith) (omega arith) (omega arith) ∙ omega arith

  module _ (h : month_days (leap (year_of n)) (month_of n) ≤ day_in_month n) where
    last : day_in_month n ≡ month_days (leap (year_of n)) (month_of n)
    last = omega (arith, p.day_high)

    next_month : month_of n < 12 → ordinal ((n / 100 + 1) * 100 + 1) ≡ ordinal n + 1
    unfolding ordinal
    next_month k =
        at_place ((n / 100 + 1) * 100 + 1) (year_of n) (suc (month_of n)) 1 (omega arith) (omega arith) (omega arith)
        ∙ omega (arith, last, month_next (leap (year_of n)) (month_of n))

    next_year : 12 ≤ month_of n → ordinal ((year_of n + 1) * 10000 + 101) ≡ ordinal n + 1
    unfolding ordinal
    next_year k =
        at_place ((year_of n + 1) * 10000 + 101) (suc (year_of n)) 1 1 (omega arith) (omega arith) (omega arith)
        ∙ omega (arith, last, month_next (leap (year_of n)) (month_of n), year_over, year_next (year_of n) p.year_low, january (suc (year_of n)))
      where
        year_over : days_before_month (leap (year_of n)) (suc (month_of n)) ≡ year_days (year_of n)
        year_over = let december : month_of n ≡ 12 = omega (arith, p.month_high) in rw december (year_whole (year_of n))

  ordinal_after : ordinal (date_after n) ≡ ordinal n + 1
  ordinal_after = go (ltb (day_in_month n) (month_days (leap (year_of n)) (month_of n))) refl (ltb (month_of n) 12) refl where
    go : (s : Bool) → ltb (day_in_month n) (month_days (leap (year_of n)) (month_of n)) ≡ s → (t : Bool) → ltb (month_of n) 12 ≡ t → ordinal (date_after n) ≡ ordinal n + 1
    go true e t f = rw e (within_month (ltb-true _ _ e))
    go false e true f = rw (e, f) (next_month (ltb-false _ _ e) (ltb-true _ _ f))
    go false e false f = rw (e, f) (next_year (ltb-false _ _ e) (ltb-false _ _ f))

one_more : (x : ℕ) (z : ℤ) → pos (x + 1) +ℤ z ≡ pos x +ℤ z +ℤ pos 1
one_more x z = rw (add-one x) (suc_ℤ-+ℤ (pos x) z ∙ sym (+ℤ_one (pos x +ℤ z)))

pub goes_up_by_one : (n : ℕ) → is_date n ≡ true → day_of (date_after n) ≡ day_of n +ℤ pos 1
unfolding day_of
goes_up_by_one n e = rw (ordinal_after n (parts n e)) (one_more (ordinal n) (negsuc 719162))
