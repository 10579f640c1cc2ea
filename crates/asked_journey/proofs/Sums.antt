-- The first departure in local time, as it is summed. Assumes nothing.
use Prim.Native.Nat.{ℕ}
use native.Mathlib.Omega.{arith}
use mathlib.Core.Path.{◌≡◌}
use mathlib.Core.Bool.{true}
use mathlib.Core.List.{List}
use lib.IntN.{ℤ, pos, negsuc, ◌+ℤ◌}
use mir.Syntax.{w64}
use mir.Val.{SFits, to_z, of_z}
use mir.Facts.{to_z-of_z}
use Rattle.tables.specs.declared.lent.Journey.{Journey}
use Rattle.moments.specs.Moments.{InReach}
use Rattle.asked_journey.specs.Journeys.{time_of, departs_of, local_of}

reach_fits : (z : ℤ) → InReach z → SFits w64 z
reach_fits (pos n) h = record { sfits = omega arith }
reach_fits (negsuc n) h = record { sfits = omega arith }

-- where there is a departure
pub summed : (bytes : List ℕ) (times : List ℤ) (j : Journey) (x y : ℤ) → departs_of bytes j ≡ true → x ≡ time_of times j.departure → y ≡ time_of times j.offset → local_of bytes times j ≡ x +ℤ y
unfolding local_of
summed bytes times j x y d e f = rw (d, ← e, ← f)

module _ (x y : ℤ) (f : SFits w64 x) (g : SFits w64 y) (h : InReach (x +ℤ y)) where
  pub sum_fits : SFits w64 (to_z w64 (of_z w64 x) +ℤ to_z w64 (of_z w64 y))
  sum_fits = rw (to_z-of_z f, to_z-of_z g) (reach_fits (x +ℤ y) h)

  pub sum_read : to_z w64 (of_z w64 (to_z w64 (of_z w64 x) +ℤ to_z w64 (of_z w64 y))) ≡ x +ℤ y
  sum_read = rw (to_z-of_z f, to_z-of_z g) (to_z-of_z (reach_fits (x +ℤ y) h))
