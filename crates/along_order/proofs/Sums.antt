-- Lengths along a part whose stretches have lengths of zero or more: they are held, at least zero, do not fall, and are finite over up to 4,194,304 stretches. Assumes nothing.
use Prim.Native.Nat.{ℕ, zero, suc, ◌+◌, ◌*◌, ◌^◌, ◌<◌, ◌≤◌}
use native.Mathlib.Omega.{arith}
use mathlib.Core.Logic.{inl, inr}
use mathlib.Core.List.{List}
use lib.Dec.{T}
use lib.Ieee.{Float, binary64, add, le, fits}
use lib.Ieee.Fits.{add-fits}
use Rattle.floats.specs.Number.{nought}
use Rattle.floats.proofs.Order.{number, le-number_right}
use Rattle.floats.proofs.Own.{nought-fits}
use Rattle.floats.proofs.Sums.{add_nonneg, add_up}
use Rattle.floats.proofs.Within.{Within, within_add, within_weaken}
use Rattle.arcs.proofs.Bounds.{Bounded}
use Rattle.sphere_lengths.proofs.Lengths.{length_bounded}
use Rattle.lengths.specs.declared.line.Point.{Point}
use Rattle.line_parts.specs.Part.{at, stretches, stretch_length, length_from}
use Rattle.line_parts.specs.declared.part.Part.{Part}
use Rattle.along_order.specs.Granted.{Lengths}
use Rattle.along_order.proofs.Clamp.{zero_zero}
use Rattle.along_order.proofs.Search.{Rising}

module _ (line : List Point) (part : Part) (granted : Lengths line part) where
  pub held : (j : ℕ) → T (fits binary64 (length_from line part.first j))
  unfolding length_from
  held zero = nought-fits binary64
  held (suc j) = add-fits binary64 (length_from line part.first j) (stretch_length line (part.first + j))

  stretch_sign : (j : ℕ) → j < stretches part → T (le nought (stretch_length line (part.first + j)))
  stretch_sign j h = granted (part.first + j) (omega arith) (omega arith)

  pub sign : (j : ℕ) → j ≤ stretches part → T (le nought (length_from line part.first j))
  unfolding length_from
  sign zero h = zero_zero
  sign (suc j) h = add_nonneg binary64 (length_from line part.first j) (stretch_length line (part.first + j)) (sign j (omega arith)) (stretch_sign j (omega arith))

  rise : (j : ℕ) → j < stretches part → T (le (length_from line part.first j) (length_from line part.first (suc j)))
  unfolding length_from
  rise j h =
      let c = length_from line part.first j in
      let d = stretch_length line (part.first + j) in
      let z = stretch_sign j h in
      add_up binary64 c d (held j) z (le-number_right nought (add binary64 c d) (add_nonneg binary64 c d (sign j (omega arith)) z))

  pub rising : Rising (length_from line part.first) (stretches part)
  rising = record { held = held; sign = sign; rise = rise }

  -- a length that is a number is within 2 ^ 30, so that a sum of them is finite
  a_number : {n : ℕ} (x : Float) → Bounded n x → T (number x) → Within n x
  a_number x (inl e) h = absurd (rw e at h)
  a_number x (inr w) h = w

  stretch_within : (j : ℕ) → j < stretches part → Within (2 ^ 30) (stretch_length line (part.first + j))
  unfolding stretch_length
  stretch_within j h =
      let p = at line (part.first + j) in
      let q = at line (suc (part.first + j)) in
      a_number _ (length_bounded p.lat p.lon q.lat q.lon) (le-number_right nought _ (stretch_sign j h))

  pub sum_within : (j : ℕ) → j ≤ stretches part → j ≤ 4194304 → Within (j * 1073741824) (length_from line part.first j)
  unfolding length_from
  sum_within zero h k = record { is_finite = tt; small = omega arith }
  sum_within (suc j) h k =
      within_weaken (omega arith) (within_add binary64 {a = j * 1073741824} {b = 1073741824} (omega arith) (sum_within j (omega arith) (omega arith)) (stretch_within j (omega arith)))
