-- `gregorian::calendar::days_before_year` meets its contract: the sum over the years is the closed form.
use borrow.Author.Rules.{rules}
use mathlib.Core.Path.{sym}
use native.Mathlib.Omega.{arith}
use Rattle.gregorian.specs.Gregorian.{days_before_year}
use Rattle.gregorian.proofs.Years.{years_before}
use Rattle.gregorian.proofs.calendar.days_before_year.Goals as goal

pub returns-then-year-eq0 : goal.returns-then-year-eq0
unfolding days_before_year
returns-then-year-eq0 c = rw c.if-year-eq0.true

pub returns : goal.returns
returns c = sym (years_before c.args.year (omega arith))
