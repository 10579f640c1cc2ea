-- Signed numbers as the machine keeps them: what is read back of a quotient, a rest and a difference; and their order.
use Prim.Native.Nat.{ℕ, zero, suc, ◌+◌, ◌/◌, ◌≤◌}
use mathlib.Core.Path.{◌≡◌, refl, sym}
use mathlib.Core.Bool.{Bool, true, false, true≢false}
use native.Mathlib.Omega.{arith}
use native.Mathlib.Nat.{div-le_self}
use borrow.Author.Tests.{ltb-true, le-ltb}
use lib.Dec.{ltb}
use lib.IntN.{ℤ, pos, negsuc, neg_ℤ, ◌-ℤ◌, sub_ℕ}
use lib.Signed.{mag, lt_z, quot_z, rem_z, mag_rem}
use mir.Syntax.{w64}
use mir.Val.{SFits, to_z, of_z}
use mir.Facts.{to_z-of_z}
use Rattle.day_counts.specs.Service.{Near}

-- what is read back of a signed value, which is itself where it fits
abbrev pub back : ℤ → ℤ
back z = to_z w64 (of_z w64 z)

-- ---- a quotient and a rest fit where the dividend does

mag_neg : (q n : ℕ) → q ≤ suc n → mag (neg_ℤ (pos q)) ≤ n
mag_neg zero n h = omega arith
mag_neg (suc q) n h = omega arith

quot_mag : (z : ℤ) (m : ℕ) → mag (quot_z z (pos m)) ≤ mag z
quot_mag (pos n) m = div-le_self n m
quot_mag (negsuc n) m = mag_neg (suc n / m) n (div-le_self (suc n) m)

module _ (m : ℕ) (z : ℤ) (f : SFits w64 z) where
  quot_small : SFits w64 (quot_z z (pos m))
  quot_small = record { sfits = omega (arith, quot_mag z m, f.sfits) }

  rem_small : SFits w64 (rem_z z (pos m))
  rem_small = record { sfits = omega (arith, mag_rem z (pos m), f.sfits) }

  pub quot_fits : SFits w64 (quot_z (back z) (pos m))
  quot_fits = rw (to_z-of_z f) quot_small

  pub quot_read : back (quot_z (back z) (pos m)) ≡ quot_z z (pos m)
  quot_read = rw (to_z-of_z f) (to_z-of_z quot_small)

  pub rem_read : back (rem_z (back z) (pos m)) ≡ rem_z z (pos m)
  rem_read = rw (to_z-of_z f) (to_z-of_z rem_small)

-- ---- a difference of numbers that are near fits

mag_subℕ : (a b : ℕ) → mag (sub_ℕ a (suc b)) ≤ a + b
mag_subℕ a b = go (ltb a (suc b)) refl where
  go : (t : Bool) → ltb a (suc b) ≡ t → mag (sub_ℕ a (suc b)) ≤ a + b
  go true e = rw e (omega arith)
  go false e = rw e (omega arith)

pub mag_sub : (a b : ℤ) → mag (a -ℤ b) ≤ mag a + mag b + 1
mag_sub (pos a) (pos zero) = omega arith
mag_sub (pos a) (pos (suc b)) = omega (arith, mag_subℕ a b)
mag_sub (pos a) (negsuc b) = omega arith
mag_sub (negsuc a) (pos zero) = omega (arith, mag_subℕ 0 a)
mag_sub (negsuc a) (pos (suc b)) = omega arith
mag_sub (negsuc a) (negsuc b) = omega (arith, mag_subℕ (suc b) a)

pub sub_fits : (a b : ℤ) → Near a b → SFits w64 (a -ℤ b)
sub_fits a b near = record { sfits = omega (arith, mag_sub a b, near.left, near.right) }

-- ---- the order

pub not_below : (z : ℤ) → lt_z z z ≡ false
not_below (pos n) = le-ltb n n (omega arith)
not_below (negsuc n) = le-ltb n n (omega arith)

pub not_both : (x y : ℤ) → lt_z x y ≡ true → lt_z y x ≡ false
not_both (pos x) (pos y) e = le-ltb y x (omega (arith, ltb-true x y e))
not_both (pos x) (negsuc y) e = absurd (true≢false (sym e))
not_both (negsuc x) (pos y) e = refl
not_both (negsuc x) (negsuc y) e = le-ltb x y (omega (arith, ltb-true y x e))
