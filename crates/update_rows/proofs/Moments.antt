-- Times as moments. Assumes nothing.
use native.Mathlib.Omega.{arith}
use mathlib.Core.Path.{◌≡◌, refl}
use mathlib.Core.Bool.{true, false}
use borrow.Author.Tests.{ltb-true}
use lib.Dec.{T}
use lib.IntN.{ℤ, pos, negsuc, nat_abs}
use lib.Signed.{lt_z, non_neg}
use mir.Syntax.{w64}
use mir.Val.{Fits, SFits}
use Rattle.ids.proofs.ByteOrder.{clash}
use Rattle.update_rows.specs.Updates.{moment_of}

pub below_zero : (z : ℤ) → lt_z z (pos 0) ≡ true → 0 ≡ moment_of z
below_zero (pos n) e = absurd (omega (arith, ltb-true n 0 e))
below_zero (negsuc n) e = refl

pub from_zero : (z : ℤ) → lt_z z (pos 0) ≡ false → nat_abs z ≡ moment_of z
from_zero (pos n) e = refl
from_zero (negsuc n) e = clash (cc)

pub unsigned : (z : ℤ) → lt_z z (pos 0) ≡ false → SFits w64 z → T (non_neg z) × Fits w64 (nat_abs z)
unsigned (pos n) e h = (tt, record { fits = omega (arith, h.sfits) })
unsigned (negsuc n) e h = clash (cc)
