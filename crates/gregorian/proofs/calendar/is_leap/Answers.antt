-- `gregorian::calendar::is_leap` meets its contract: the tests in the order of the definition.
use Prim.Native.Nat.{◌%◌}
use native.Mathlib.Omega.{arith}
use borrow.Author.Tests.{eq-eqb, ne_eqb}
use Rattle.gregorian.specs.Gregorian.{leap}
use Rattle.gregorian.proofs.calendar.is_leap.Goals as goal

pub returns-then-year-ne0 : goal.returns-then-year-ne0
unfolding leap
returns-then-year-ne0 c = rw (ne_eqb (c.args.year % 4) 0 c.if-year-ne0.true, ne_eqb (c.args.year % 400) 0 (λ e. c.if-year-ne0.true (omega arith)))

pub returns-then-year-ne0-2 : goal.returns-then-year-ne0-2
unfolding leap
returns-then-year-ne0-2 c = rw (eq-eqb (c.args.year % 4) 0 c.if-year-ne0.false, ne_eqb (c.args.year % 100) 0 c.if-year-ne0-2.true)

pub returns : goal.returns
unfolding leap
returns c = rw (eq-eqb (c.args.year % 4) 0 c.if-year-ne0.false, eq-eqb (c.args.year % 100) 0 c.if-year-ne0-2.false)
