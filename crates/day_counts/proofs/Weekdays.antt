-- The weekday from the machine's rest by 7, which has the day's sign: 7 more, and 3, is not negative.
use Prim.Native.Nat.{ℕ, zero, suc, ◌+◌, ◌-◌, ◌%◌, ◌<◌}
use mathlib.Core.Path.{◌≡◌, refl, ◌∙◌}
use mathlib.Core.Bool.{Bool, true, false}
use native.Mathlib.Omega.{arith}
use borrow.Author.Tests.{le-ltb, lt-ltb, ltb-true, ltb-false}
use lib.Dec.{ltb}
use lib.IntN.{ℤ, pos, negsuc, neg_ℤ, ◌+ℤ◌}
use lib.Signed.{rem_z}
use mir.Syntax.{w64}
use mir.Val.{SFits}
use Rattle.day_counts.specs.Weekdays.{weekday_of}
use Rattle.day_counts.specs.Floor.{floor_mod}
use Rattle.day_counts.proofs.Signed.{back, rem_read}

-- -r + 10, of a rest r by 7
ten_less : (r : ℕ) → r < 7 → neg_ℤ (pos r) +ℤ pos 10 ≡ pos (10 - r)
ten_less zero h = refl
ten_less (suc r) h = rw (le-ltb 10 (suc r) (omega arith)) refl

-- z's rest by 7, and 10, which is not negative
abbrev shifted : ℤ → ℕ
shifted (pos n) = n % 7 + 10
shifted (negsuc n) = 10 - suc n % 7

shifts : (z : ℤ) → rem_z z (pos 7) +ℤ pos 10 ≡ pos (shifted z)
shifts (pos n) = refl
shifts (negsuc n) = ten_less (suc n % 7) (omega arith)

shifted_small : (z : ℤ) → shifted z < 17
shifted_small (pos n) = omega arith
shifted_small (negsuc n) = omega arith

shifted_weekday : (z : ℤ) → shifted z % 7 ≡ weekday_of z
unfolding weekday_of
shifted_weekday (pos n) = omega arith
shifted_weekday (negsuc n) = go (ltb 3 (suc n)) refl where
  go : (t : Bool) → ltb 3 (suc n) ≡ t → (10 - suc n % 7) % 7 ≡ floor_mod (negsuc n +ℤ pos 3) 7
  go true e = rw e (omega (arith, ltb-true 3 (suc n) e))
  go false e = rw e (omega (arith, ltb-false 3 (suc n) e))

shifted_fits : (z : ℤ) → SFits w64 (pos (shifted z))
shifted_fits z = record { sfits = omega (arith, shifted_small z) }

module _ (z : ℤ) (f : SFits w64 z) where
  abbrev pub ahead : ℤ
  ahead = back (rem_z (back z) (pos 7)) +ℤ pos 10

  ahead_is : ahead ≡ pos (shifted z)
  ahead_is = rw (rem_read 7 z f) (shifts z)

  pub ahead_fits : SFits w64 ahead
  ahead_fits = rw ahead_is (shifted_fits z)

  -- the rest by 7 of what is not negative
  pub weekday_read : back (rem_z (back ahead) (pos 7)) ≡ pos (weekday_of z)
  weekday_read = rem_read 7 ahead ahead_fits ∙ rw (ahead_is, shifted_weekday z) refl

pub weekday_small : (z : ℤ) → weekday_of z < 7
weekday_small z = rw (← shifted_weekday z) (omega arith)

-- the next day has the next weekday
pub weekday_next : (z : ℤ) → weekday_of (z +ℤ pos 1) ≡ (weekday_of z + 1) % 7
weekday_next z = rw (← shifted_weekday z, ← shifted_weekday (z +ℤ pos 1)) (go z) where
  go : (y : ℤ) → shifted (y +ℤ pos 1) % 7 ≡ (shifted y % 7 + 1) % 7
  go (pos n) = omega arith
  go (negsuc zero) = refl
  go (negsuc (suc n)) = rw (lt-ltb 1 (suc (suc n)) (omega arith)) (omega arith)
