-- `gregorian::calendar::month_days` meets its contract: February, the months of 30 days, and all others.
use mathlib.Core.Path.{◌≡◌, sym}
use native.Mathlib.Omega.{arith}
use borrow.Author.Rules.{rules}
use Rattle.gregorian.specs.Gregorian.{month_days}
use Rattle.gregorian.proofs.Months.{thirty, thirty_one, no_month}
use Rattle.gregorian.proofs.calendar.month_days.Goals as goal

pub returns-then-month-lt1 : goal.returns-then-month-lt1
unfolding month_days
returns-then-month-lt1 c = let e : c.args.month ≡ 0 = omega arith in rw e

pub returns-then-month-gt12 : goal.returns-then-month-gt12
returns-then-month-gt12 c = sym (no_month c.args.leaps c.args.month c.if-month-gt12.true)

pub returns-then-leaps : goal.returns-then-leaps
unfolding month_days
returns-then-leaps c = rw (c.in-2.is, c.if-leaps.true)

pub returns-else-leaps : goal.returns-else-leaps
unfolding month_days
returns-else-leaps c = rw (c.in-2.is, c.if-leaps.false)

pub returns-in-4 : goal.returns-in-4
returns-in-4 c = sym (thirty c.args.leaps c.args.month c.in-4.is)

pub returns-in_default : goal.returns-in_default
returns-in_default c = sym (thirty_one c.args.leaps c.args.month c.if-month-lt1.false c.if-month-gt12.false (search rules) (search rules))
