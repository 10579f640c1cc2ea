-- A moment's service day as a count: its ordinal is not negative, and both numbers are small. Assumes nothing.
use Prim.Native.Nat.{◌/◌, ◌<◌, ◌≤◌, ◌^◌}
use native.Mathlib.Omega.{arith}
use mathlib.Core.Path.{◌≡◌, refl}
use lib.Dec.{T}
use lib.IntN.{ℤ, pos, negsuc, nat_abs, ◌+ℤ◌}
use lib.Signed.{mag, non_neg}
use mir.Syntax.{w32, w64}
use mir.Val.{Fits, SFits}
use mir.Facts.{to_z-of_z}
use Rattle.day_counts.specs.Service.{service_day_of}
use Rattle.day_counts.proofs.Signed.{back}
use Rattle.moments.specs.Moments.{InReach, today_of}

-- the day, the day's ordinal and the second, of a moment in reach
day_small : (z : ℤ) → InReach z → mag (service_day_of z).day < 2 ^ 62
unfolding service_day_of
day_small (pos n) h = omega arith
day_small (negsuc n) h = omega arith

ordinal_is : (z : ℤ) → InReach z → (service_day_of z).day +ℤ pos 719163 ≡ pos (today_of z).day
unfolding today_of service_day_of
ordinal_is (pos n) h = refl
ordinal_is (negsuc n) h = let e : n / 86400 ≡ 0 = omega arith in rw e

pub ordinal_small : (z : ℤ) → InReach z → (1 ≤ (today_of z).day) × ((today_of z).day < 2 ^ 31)
unfolding today_of service_day_of
ordinal_small (pos n) h = (omega arith, omega arith)
ordinal_small (negsuc n) h = let e : n / 86400 ≡ 0 = omega arith in rw e (omega arith, omega arith)

pub second_small : (z : ℤ) → (today_of z).second < 86400
unfolding today_of service_day_of
second_small (pos n) = omega arith
second_small (negsuc n) = omega arith

-- both as the machine reads them
module _ (z : ℤ) (h : InReach z) where
  ordinal_fits : SFits w64 (pos (today_of z).day)
  ordinal_fits = record { sfits = omega (arith, ordinal_small z h) }

  day_read : back (service_day_of z).day ≡ (service_day_of z).day
  day_read = to_z-of_z {w = w64} (record { sfits = omega (arith, day_small z h) })

  pub sum_fits : SFits w64 (back (service_day_of z).day +ℤ pos 719163)
  sum_fits = rw (day_read, ordinal_is z h) ordinal_fits

  pub ordinal_read : back (back (service_day_of z).day +ℤ pos 719163) ≡ pos (today_of z).day
  ordinal_read = rw (day_read, ordinal_is z h) (to_z-of_z {w = w64} ordinal_fits)

pub second_read : (z : ℤ) → back (service_day_of z).second ≡ pos (today_of z).second
unfolding today_of service_day_of
second_read z = to_z-of_z {w = w64} (record { sfits = omega (arith, second_small z) })

-- a number that is not negative, and fits 32 bits
pub unsigned : (z : ℤ) (n : _) → z ≡ pos n → n < 2 ^ 32 → T (non_neg z) × Fits w32 (nat_abs z)
unsigned z n e h = rw e (tt, record { fits = h })
