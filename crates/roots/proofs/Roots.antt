-- The square root keeps the order: where x is at most y and x has a root, the root of x is at most that of y. Of all floats, zeros and infinities too.
use mathlib.Core.Path.{◌≡◌, refl, sym, subst}
use Prim.Native.Nat.{ℕ, zero, suc, ◌*◌, ◌≤◌, ◌<◌}
use native.Mathlib.Nat.{mul-pos, zero-lt-suc}
use native.Mathlib.Omega.{arith}
use mathlib.Core.Bool.{Bool, true, false}
use lib.IntN.{ℤ, pos}
use lib.Dec.{T}
use lib.Ieee.{Float, nan, inf, fin, binary64, up, down, lt, eq, le}
use lib.Ieee.Fits.{up_pos, down_pos}
use Rattle.floats.specs.Number.{nought, one}
use Rattle.floats.proofs.Signed.{le→below}
use Rattle.floats.proofs.Order.{number, top, trans_le, zeros_le, round_number, round_nonneg, nonneg_le, clear}
use Rattle.roots.specs.Root.{round_root, root_of}
use Rattle.roots.proofs.Order.{round_root-rounds, round_root_mono}

-- ---- the rounded root of a positive number is a number of zero or more
module _ (a c : ℕ) (C : 0 < c) where
  rounded_number : T (number (round_root binary64 a c))
  rounded_number = subst (λ (x : Float). T (number x)) (sym (round_root-rounds binary64 a c C)) (round_number binary64 false _ _)

  rounded_nonneg : (s : Bool) (e : ℤ) → T (le (fin s 0 e) (round_root binary64 a c))
  rounded_nonneg s e =
      trans_le (fin s 0 e) nought (round_root binary64 a c) (zeros_le s false e (pos 0))
      (subst (λ (x : Float). T (le nought x)) (sym (round_root-rounds binary64 a c C)) (round_nonneg binary64 _ _))

-- ---- no zero is at most a negative number, and no positive number is at most a zero or a negative number
above_zero : (m : ℕ) (e d : ℤ) → 0 < suc m * up e * down d
above_zero m e d = mul-pos (mul-pos (zero-lt-suc m) (up_pos e)) (down_pos d)

zero_negative : (s : Bool) (n : ℕ) (e d : ℤ) → T (le (fin s 0 e) (fin true (suc n) d)) → ⊥
zero_negative false n e d h = omega (arith, above_zero n d e, le→below (fin false 0 e) (fin true (suc n) d) tt tt h)
zero_negative true n e d h = omega (arith, above_zero n d e, le→below (fin true 0 e) (fin true (suc n) d) tt tt h)

positive_zero : (m : ℕ) (e d : ℤ) → T (le (fin false (suc m) e) (fin false 0 d)) → ⊥
positive_zero m e d h = omega (arith, above_zero m e d, le→below (fin false (suc m) e) (fin false 0 d) tt tt h)

positive_negative : (m n : ℕ) (e d : ℤ) → T (le (fin false (suc m) e) (fin true n d)) → ⊥
positive_negative m n e d h = omega (arith, above_zero m e d, le→below (fin false (suc m) e) (fin true n d) tt tt h)

fractions : (m n : ℕ) (e d : ℤ) → T (le (fin false m e) (fin false n d)) → m * up e * down d ≤ n * up d * down e
fractions m n e d h = omega (arith, le→below (fin false m e) (fin false n d) tt tt h)

-- ---- the square root
pub root_mono : (x y : Float) → T (le x y) → T (number (root_of x)) → T (le (root_of x) (root_of y))
unfolding root_of le lt eq
root_mono nan y h p = absurd h
root_mono (inf true) y h p = absurd p
root_mono (inf false) nan h p = absurd h
root_mono (inf false) (inf true) h p = absurd h
root_mono (inf false) (inf false) h p = tt
root_mono (inf false) (fin t n d) h p = absurd h
root_mono (fin s zero e) nan h p = absurd h
root_mono (fin s zero e) (inf true) h p = absurd h
root_mono (fin s zero e) (inf false) h p = tt
root_mono (fin s zero e) (fin t zero d) h p = h
root_mono (fin s zero e) (fin true (suc n) d) h p = absurd (zero_negative s n e d h)
root_mono (fin s zero e) (fin false (suc n) d) h p = rounded_nonneg (suc n * up d) (down d) (down_pos d) s e
root_mono (fin true (suc m) e) y h p = absurd p
root_mono (fin false (suc m) e) nan h p = absurd h
root_mono (fin false (suc m) e) (inf true) h p = absurd h
root_mono (fin false (suc m) e) (inf false) h p = top (round_root binary64 (suc m * up e) (down e)) (rounded_number (suc m * up e) (down e) (down_pos e))
root_mono (fin false (suc m) e) (fin true n d) h p = absurd (positive_negative m n e d h)
root_mono (fin false (suc m) e) (fin false zero d) h p = absurd (positive_zero m e d h)
root_mono (fin false (suc m) e) (fin false (suc n) d) h p =
    round_root_mono binary64 (suc m * up e) (down e) (suc n * up d) (down d) (down_pos e) (down_pos d) (fractions (suc m) (suc n) e d h)

-- what is at least zero has a root, and nothing else has one: -0 counts as at least zero, and is its own root
pub root_number : (x : Float) → T (le (fin false 0 (pos 0)) x) → T (number (root_of x))
unfolding root_of le lt eq
root_number nan h = absurd h
root_number (inf true) h = absurd h
root_number (inf false) h = tt
root_number (fin s zero e) h = tt
root_number (fin true (suc m) e) h = absurd (zero_negative false m (pos 0) e h)
root_number (fin false (suc m) e) h = rounded_number (suc m * up e) (down e) (down_pos e)

pub root_of-number : (x : Float) → T (number (root_of x)) → T (le nought x)
unfolding root_of le lt eq
root_of-number nan p = absurd p
root_of-number (inf true) p = absurd p
root_of-number (inf false) p = tt
root_of-number (fin true zero e) p = zeros_le false true (pos 0) e
root_of-number (fin true (suc m) e) p = absurd p
root_of-number (fin false m e) p = nonneg_le (clear m e)

pub root_nonneg : (x : Float) → T (number (root_of x)) → T (le nought (root_of x))
unfolding root_of
root_nonneg x p = root_mono nought x (root_of-number x p) tt

pub root_one : root_of one ≡ one
unfolding root_of
root_one = refl
