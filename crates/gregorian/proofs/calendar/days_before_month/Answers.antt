-- `gregorian::calendar::days_before_month` meets its contract: from March on a leap year has one day more.
use borrow.Author.Rules.{rules}
use Prim.Native.Nat.{ℕ, ◌+◌}
use mathlib.Core.Path.{ap}
use mathlib.Core.Bool.{false}
use mathlib.Core.Logic.{⊎_elim}
use native.Mathlib.Omega.{arith}
use Rattle.gregorian.proofs.Months.{months_bound, leap_day, no_leap_day}
use Rattle.gregorian.proofs.calendar.days_before_month.Goals as goal
use Rattle.gregorian.proofs.calendar.days_before_month.Goals.{then-leaps+else-month-gt2, else-leaps}

pub overflow_add-result : goal.overflow_add-result
overflow_add-result c = record { fits = omega (arith, months_bound false c.args.month, c.common_days_before.ensures) }

pub returns-then-month-gt2 : goal.returns-then-month-gt2
returns-then-month-gt2 c = rw (c.if-leaps.true, leap_day c.args.month c.if-month-gt2.true) (ap (λ (n : ℕ). n + 1) c.common_days_before.ensures)

pub returns : goal.returns
returns c =
    elim c.if-leaps.branch [
      | then-leaps+else-month-gt2 w ↦ rw (w.if-leaps.true, no_leap_day c.args.month w.if-month-gt2.false) c.common_days_before-2.ensures
      | else-leaps w ↦ rw w.if-leaps.false c.common_days_before-2.ensures
    ]
