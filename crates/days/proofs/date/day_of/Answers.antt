-- `days::date::day_of` meets its contract: the ordinal is small, so that it is the same signed.
use borrow.Author.Rules.{rules}
use Prim.Native.Nat.{ℕ, ◌<◌, ◌^◌}
use mathlib.Core.Path.{◌≡◌}
use native.Mathlib.Omega.{arith}
use lib.IntN.{pos}
use mir.Syntax.{w64}
use mir.Val.{to_z}
use mir.Facts.{to_z-of_z, to_z_pos}
use Rattle.days.specs.Days.{ordinal, day_of}
use Rattle.days.proofs.Ordinals.{ordinal_small, day_fits}
use Rattle.days.proofs.date.day_of.Goals as goal

small : (n r : ℕ) → n < 2 ^ 32 → r ≡ ordinal n → r < 2 ^ 62
small n r h e = rw e (ordinal_small n h)

read : (r : ℕ) → r < 2 ^ 62 → to_z w64 r ≡ pos r
read r h = to_z_pos w64 (omega (arith, h))

pub overflow_cast-result : goal.overflow_cast-result
overflow_cast-result c = let r = c.ordinal_of.result in let h : r < 2 ^ 62 = small c.args.n r (search rules) c.ordinal_of.ensures in record { sfits = omega (arith, h) }

pub overflow_sub-result : goal.overflow_sub-result
overflow_sub-result c = let r = c.ordinal_of.result in let h : r < 2 ^ 62 = small c.args.n r (search rules) c.ordinal_of.ensures in rw (read r h) (day_fits c.ordinal_of.result h)

pub returns : goal.returns
unfolding day_of
returns c = let r = c.ordinal_of.result in let h : r < 2 ^ 62 = small c.args.n r (search rules) c.ordinal_of.ensures in rw (read r h, to_z-of_z {w = w64} (day_fits c.ordinal_of.result h), c.ordinal_of.ensures)
