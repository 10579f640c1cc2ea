-- `gregorian::calendar::common_days_before` meets its contract: each month's number is the sum, by computing.
use Prim.Native.Nat.{ℕ, ◌<◌, ◌≤◌, zero-le}
use mathlib.Core.Path.{◌≡◌, sym}
use mathlib.Core.Bool.{false}
use native.Mathlib.Omega.{arith}
use Rattle.gregorian.specs.Gregorian.{days_before_month}
use Rattle.gregorian.proofs.Months.{whole}
use Rattle.gregorian.proofs.calendar.common_days_before.Goals as goal

pub returns-in-0 : goal.returns-in-0
unfolding days_before_month
returns-in-0 c = rw c.in-0.is

pub returns-in-1 : goal.returns-in-1
unfolding days_before_month
returns-in-1 c = rw c.in-1.is

pub returns-in-2 : goal.returns-in-2
unfolding days_before_month
returns-in-2 c = rw c.in-2.is

pub returns-in-3 : goal.returns-in-3
unfolding days_before_month
returns-in-3 c = rw c.in-3.is

pub returns-in-4 : goal.returns-in-4
unfolding days_before_month
returns-in-4 c = rw c.in-4.is

pub returns-in-5 : goal.returns-in-5
unfolding days_before_month
returns-in-5 c = rw c.in-5.is

pub returns-in-6 : goal.returns-in-6
unfolding days_before_month
returns-in-6 c = rw c.in-6.is

pub returns-in-7 : goal.returns-in-7
unfolding days_before_month
returns-in-7 c = rw c.in-7.is

pub returns-in-8 : goal.returns-in-8
unfolding days_before_month
returns-in-8 c = rw c.in-8.is

pub returns-in-9 : goal.returns-in-9
unfolding days_before_month
returns-in-9 c = rw c.in-9.is

pub returns-in-10 : goal.returns-in-10
unfolding days_before_month
returns-in-10 c = rw c.in-10.is

pub returns-in-11 : goal.returns-in-11
unfolding days_before_month
returns-in-11 c = rw c.in-11.is

pub returns-in-12 : goal.returns-in-12
unfolding days_before_month
returns-in-12 c = rw c.in-12.is

pub returns-in_default : goal.returns-in_default
returns-in_default c = sym (whole false c.args.month (omega arith))
