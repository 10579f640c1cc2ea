-- A date's parts, and its ordinal, which is small even of a u32 that is no date.
use Prim.Native.Nat.{ℕ, ◌+◌, ◌/◌, ◌%◌, ◌<◌, ◌≤◌, ◌^◌}
use mathlib.Core.Path.{◌≡◌}
use mathlib.Core.Bool.{true, ◌&&◌}
use native.Mathlib.Omega.{arith}
use borrow.Author.Tests.{leb-true}
use lib.Dec.{leb}
use lib.IntN.{pos, ◌-ℤ◌}
use mir.Syntax.{w64}
use mir.Val.{SFits}
use Rattle.days.specs.Days.{year_of, month_of, day_in_month, within, is_date, ordinal}
use Rattle.gregorian.specs.Gregorian.{leap, month_days, days_before_month, days_before_year}
use Rattle.gregorian.proofs.Bools.{and_left, and_right}
use Rattle.gregorian.proofs.Months.{months_bound}
use Rattle.day_counts.proofs.Signed.{sub_fits}
use Rattle.gregorian.proofs.Years.{years_bound}

-- the ordinal of day d of month m of year y
abbrev pub place : ℕ → ℕ → ℕ → ℕ
place y m d = days_before_year y + days_before_month (leap y) m + d

pub ordinal_small : (n : ℕ) → n < 2 ^ 32 → ordinal n < 2 ^ 62
unfolding ordinal
ordinal_small n h = omega (arith, years_bound (n / 10000), months_bound (leap (n / 10000)) (n / 100 % 100))

pub day_fits : (s : ℕ) → s < 2 ^ 62 → SFits w64 (pos s -ℤ pos 719163)
day_fits s h = sub_fits (pos s) (pos 719163) (record { left = h; right = omega arith })

-- what a date's parts are known to be
pub record Parts (n : ℕ) : Type 0 where
  pub year_low : 1 ≤ year_of n
  pub month_high : month_of n ≤ 12
  pub day_low : 1 ≤ day_in_month n
  pub day_high : day_in_month n ≤ month_days (leap (year_of n)) (month_of n)

both : (a b x : ℕ) → within a b x ≡ true → (a ≤ x) × (x ≤ b)
both a b x e = (leb-true a x (and_left (leb a x) (leb x b) e), leb-true x b (and_right (leb a x) (leb x b) e))

pub parts : (n : ℕ) → is_date n ≡ true → Parts n
unfolding is_date
parts n e =
    let y = within 1 9999 (year_of n) in
    let m = within 1 12 (month_of n) in
    let d = within 1 (month_days (leap (year_of n)) (month_of n)) (day_in_month n) in
    let ym = and_left (y && m) d e in
    let ys = both 1 9999 (year_of n) (and_left y m ym) in
    let ms = both 1 12 (month_of n) (and_right y m ym) in
    let ds = both 1 (month_days (leap (year_of n)) (month_of n)) (day_in_month n) (and_right (y && m) d e) in
    record { year_low = ys.0; month_high = ms.1; day_low = ds.0; day_high = ds.1 }
