-- How far two numbers are apart is never negative: it is their difference without its sign.
use Prim.Native.Nat.{ℕ, zero, suc, ◌+◌, ◌-◌}
use mathlib.Core.Path.{◌≡◌, refl, sym, ◌∙◌}
use mathlib.Core.Bool.{Bool, true, false, cond, true≢false}
use native.Mathlib.Omega.{arith}
use borrow.Author.Tests.{ltb-true, ltb-false, le-ltb, le-leb}
use lib.Dec.{ltb}
use lib.IntN.{ℤ, pos, negsuc, nat_abs, sub_ℕ, ◌-ℤ◌}
use lib.Signed.{lt_z, le_z}
use Rattle.day_counts.specs.Service.{apart}
use Rattle.day_counts.proofs.Signed.{not_both}

-- what is not less, less the other
less_smaller : (a b : ℤ) → lt_z a b ≡ false → le_z (pos 0) (a -ℤ b) ≡ true
less_smaller (pos a) (pos zero) e = le-leb 0 (a + 0) (omega arith)
less_smaller (pos a) (pos (suc b)) e = rw e (le-leb 0 (a - suc b) (omega arith))
less_smaller (pos a) (negsuc b) e = le-leb 0 (a + suc b) (omega arith)
less_smaller (negsuc a) (pos b) e = absurd (true≢false e)
less_smaller (negsuc a) (negsuc b) e =
    let h = ltb-false b a e in
    rw (le-ltb (suc b) (suc a) (omega arith)) (le-leb 0 (suc b - suc a) (omega arith))

pub not_negative : (a b : ℤ) → le_z (pos 0) (apart a b) ≡ true
unfolding apart
not_negative a b = go (lt_z a b) refl where
  go : (t : Bool) → lt_z a b ≡ t → le_z (pos 0) (apart a b) ≡ true
  go true e = rw e (less_smaller b a (not_both a b e))
  go false e = rw e (less_smaller a b e)

-- a difference has one size either way round
sub_size : (a b : ℕ) → nat_abs (sub_ℕ a b) ≡ a - b + (b - a)
sub_size a b = go (ltb a b) refl where
  go : (t : Bool) → ltb a b ≡ t → nat_abs (sub_ℕ a b) ≡ a - b + (b - a)
  go true e = rw e (omega (arith, ltb-true a b e))
  go false e = rw e (omega (arith, ltb-false a b e))

pos_size : (a b : ℕ) → nat_abs (pos a -ℤ pos b) ≡ a - b + (b - a)
pos_size a zero = omega arith
pos_size a (suc b) = sub_size a (suc b)

mixed_size : (a b : ℕ) → nat_abs (negsuc b -ℤ pos a) ≡ a + suc b
mixed_size zero b = sub_size 0 (suc b) ∙ omega arith
mixed_size (suc a) b = omega arith

either_way : (a b : ℤ) → nat_abs (b -ℤ a) ≡ nat_abs (a -ℤ b)
either_way (pos a) (pos b) = rw (pos_size a b, pos_size b a) (omega arith)
either_way (pos a) (negsuc b) = mixed_size a b
either_way (negsuc a) (pos b) = sym (mixed_size b a)
either_way (negsuc a) (negsuc b) = rw (sub_size (suc a) (suc b), sub_size (suc b) (suc a)) (omega arith)

pub apart_size : (a b : ℤ) → nat_abs (apart a b) ≡ nat_abs (a -ℤ b)
unfolding apart
apart_size a b = go (lt_z a b) where
  go : (t : Bool) → nat_abs (cond t (b -ℤ a) (a -ℤ b)) ≡ nat_abs (a -ℤ b)
  go true = either_way a b
  go false = refl
