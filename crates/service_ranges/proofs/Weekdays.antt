-- The weekday of a day by its ordinal is the weekday of its number. Assumes nothing.
use Prim.Native.Nat.{ℕ, suc, ◌+◌, ◌-◌}
use native.Mathlib.Omega.{arith}
use mathlib.Core.Path.{◌≡◌, refl}
use mathlib.Core.Bool.{Bool, true, false}
use borrow.Author.Tests.{ltb-true, ltb-false}
use lib.Dec.{ltb}
use lib.IntN.{pos, negsuc, ◌+ℤ◌, ◌-ℤ◌}
use Rattle.days.specs.Days.{ordinal, day_of}
use Rattle.day_counts.specs.Weekdays.{weekday_of}
use Rattle.day_counts.specs.Floor.{floor_mod}
use Rattle.service_ranges.specs.Range.{weekday_at}

-- the day that is m days and one more before day 0
before : (m k : ℕ) → m + suc k ≡ 719163 → floor_mod (negsuc m +ℤ pos 3) 7 ≡ weekday_at k
before m k e = go (ltb 3 (suc m)) refl where
  go : (t : Bool) → ltb 3 (suc m) ≡ t → floor_mod (negsuc m +ℤ pos 3) 7 ≡ weekday_at k
  go true q = rw q (omega (arith, ltb-true 3 (suc m) q))
  go false q = rw q (omega (arith, ltb-false 3 (suc m) q))

by_ordinal : (k : ℕ) → weekday_at k ≡ weekday_of (pos k -ℤ pos 719163)
unfolding weekday_of
by_ordinal k = go (ltb k 719163) refl where
  go : (t : Bool) → ltb k 719163 ≡ t → weekday_at k ≡ floor_mod (pos k -ℤ pos 719163 +ℤ pos 3) 7
  go true e = rw e (rw (before (719163 - suc k) k (omega (arith, ltb-true k 719163 e))))
  go false e = rw e (omega (arith, ltb-false k 719163 e))

-- of any digits, a date's or not
pub same_weekday : (n : ℕ) → weekday_at (ordinal n) ≡ weekday_of (day_of n)
unfolding day_of
same_weekday n = by_ordinal (ordinal n)
