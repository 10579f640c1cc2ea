-- `days::date::ordinal_of` meets its contract: what it adds up is the ordinal, which is small.
use borrow.Author.Rules.{rules}
use Prim.Native.Nat.{ℕ, ◌+◌, ◌/◌, ◌%◌, ◌<◌, ◌^◌}
use mathlib.Core.Path.{◌≡◌}
use mathlib.Core.Bool.{Bool}
use Rattle.gregorian.specs.Gregorian.{leap, days_before_month, days_before_year}
use native.Mathlib.Omega.{arith}
use Rattle.days.specs.Days.{ordinal}
use Rattle.days.proofs.Ordinals.{ordinal_small}
use Rattle.days.proofs.date.ordinal_of.Goals as goal

sum_is : (n : ℕ) (l : Bool) (m y : ℕ) → l ≡ leap (n / 10000) → m ≡ days_before_month l (n / 100 % 100) → y ≡ days_before_year (n / 10000) → y + m + n % 100 ≡ ordinal n
unfolding ordinal
sum_is n l m y e f g = rw (g, f, e)

small : (n : ℕ) (l : Bool) (m y : ℕ) → l ≡ leap (n / 10000) → m ≡ days_before_month l (n / 100 % 100) → y ≡ days_before_year (n / 10000) → n < 2 ^ 32 → y + m + n % 100 < 2 ^ 62
small n l m y e f g h = rw (sum_is n l m y e f g) (ordinal_small n h)

pub overflow_add-result : goal.overflow_add-result
overflow_add-result c = record { fits = omega (arith, small c.args.n c.is_leap.result c.days_before_month-past.result c.days_before_year.result c.is_leap.ensures c.days_before_month-past.ensures c.days_before_year.ensures (search rules)) }

pub overflow_add-result-2 : goal.overflow_add-result-2
overflow_add-result-2 c = record { fits = omega (arith, small c.args.n c.is_leap.result c.days_before_month-past.result c.days_before_year.result c.is_leap.ensures c.days_before_month-past.ensures c.days_before_year.ensures (search rules)) }

pub returns : goal.returns
returns c = sum_is c.args.n c.is_leap.result c.days_before_month-past.result c.days_before_year.result c.is_leap.ensures c.days_before_month-past.ensures c.days_before_year.ensures
