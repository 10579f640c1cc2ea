-- `service_ranges::range::on_weekday` meets its contract: a weekday is below 7, so that the shifted 1 is a power of two.
use borrow.Author.Rules.{rules}
use Prim.Native.Nat.{ℕ, ◌*◌, ◌^◌, ◌%◌}
use native.Mathlib.Nat.{one-mul}
use native.Mathlib.Omega.{arith}
use mathlib.Core.Path.{◌≡◌, ◌∙◌}
use lib.Dec.{lit<}
use lib.Pow.{pow_pos, shl_exact}
use Rattle.service_ranges.specs.Range.{on_weekday, weekday_at}
use Rattle.service_ranges.proofs.range.on_weekday.Goals as goal

shifted : (day : ℕ) → (1 * 2 ^ weekday_at day) % 18446744073709551616 ≡ 2 ^ weekday_at day
shifted day = shl_exact {a = 1} 1 (weekday_at day) 64 (lit< tt) (omega arith) ∙ one-mul (2 ^ weekday_at day)

pub nonzero_div-result : goal.nonzero_div-result
nonzero_div-result c = rw (shifted c.args.day) (pow_pos (weekday_at c.args.day))

pub returns : goal.returns
unfolding on_weekday
returns c = rw (shifted c.args.day)
