-- Signed seconds are small: departures and counts fit 32 bits, so that no difference of them wraps. Assumes nothing.
use Prim.Native.Nat.{ℕ, ◌<◌, ◌^◌}
use native.Mathlib.Omega.{arith}
use mathlib.Core.Path.{◌≡◌, ap, sym, ◌∙◌}
use mathlib.Core.Bool.{true, true≢false}
use lib.Dec.{T}
use lib.IntN.{ℤ, pos, negsuc, nat_abs, ◌-ℤ◌}
use lib.Signed.{mag, le_z, non_neg, nat_abs-le}
use mir.Syntax.{w32, w64}
use mir.Val.{Fits, SFits, to_z}
use mir.Facts.{to_z-of_z, to_z_pos}
use Rattle.day_counts.specs.Service.{Near, apart}
use Rattle.day_counts.proofs.Apart.{apart_size, not_negative}
use Rattle.day_counts.proofs.Signed.{back, mag_sub, sub_fits}
use Rattle.departure_fits.specs.Departures.{since}

-- a number of 32 bits, read as a signed one of 64
pub as_signed : (s : ℕ) → Fits w32 s → to_z w64 s ≡ pos s
as_signed s f = to_z_pos w64 (omega (arith, f.fits))

-- a signed number, read back
pub read : (z : ℤ) → mag z < 2 ^ 63 → back z ≡ z
read z small = to_z-of_z {w = w64} (record { sfits = small })

module _ (s c : ℕ) (f : Fits w32 s) (g : Fits w32 c) where
  pub counts_near : Near (pos s) (pos c)
  counts_near = record { left = omega (arith, f.fits); right = omega (arith, g.fits) }

  pub since_fits : SFits w64 (since s c)
  since_fits = sub_fits (pos s) (pos c) counts_near

pub sinces_near : (s c t d : ℕ) → Fits w32 s → Fits w32 c → Fits w32 t → Fits w32 d → Near (since s c) (since t d)
sinces_near s c t d f g h k = record { left = omega (arith, mag_sub (pos s) (pos c), f.fits, g.fits); right = omega (arith, mag_sub (pos t) (pos d), h.fits, k.fits) }

-- how far two numbers are apart, read as an unsigned number
not_below : (z : ℤ) → le_z (pos 0) z ≡ true → T (non_neg z)
not_below (pos n) e = tt
not_below (negsuc n) e = absurd (true≢false (sym e))

module _ (a b : ℤ) {z : ℤ} (e : z ≡ apart a b) (small : mag z < 2 ^ 63) where
  pub unsigned : T (non_neg (back z)) × Fits w64 (nat_abs (back z))
  unsigned = rw (read z small) (rw e (not_below (apart a b) (not_negative a b)), record { fits = omega (arith, nat_abs-le z small) })

  pub size : nat_abs (back z) ≡ nat_abs (a -ℤ b)
  size = ap nat_abs (read z small) ∙ ap nat_abs e ∙ apart_size a b
