-- `days::date::is_date` meets its contract: the tests in the order of the definition.
use borrow.Author.Rules.{rules}
use Prim.Native.Nat.{◌/◌, ◌%◌}
use borrow.Author.Tests.{le-leb, lt-leb}
use Rattle.days.specs.Days.{is_date}
use Rattle.days.proofs.date.is_date.Goals as goal

pub returns-then-year-lt1 : goal.returns-then-year-lt1
unfolding is_date
returns-then-year-lt1 c = rw (lt-leb 1 (c.args.n / 10000) c.if-year-lt1.true)

pub returns-then-year-gt9999 : goal.returns-then-year-gt9999
unfolding is_date
returns-then-year-gt9999 c = rw (le-leb 1 (c.args.n / 10000) c.if-year-lt1.false, lt-leb (c.args.n / 10000) 9999 c.if-year-gt9999.true)

pub returns-then-month-lt1 : goal.returns-then-month-lt1
unfolding is_date
returns-then-month-lt1 c = rw (le-leb 1 (c.args.n / 10000) c.if-year-lt1.false, le-leb (c.args.n / 10000) 9999 c.if-year-gt9999.false, lt-leb 1 (c.args.n / 100 % 100) c.if-month-lt1.true)

pub returns-then-month-gt12 : goal.returns-then-month-gt12
unfolding is_date
returns-then-month-gt12 c = rw (le-leb 1 (c.args.n / 10000) c.if-year-lt1.false, le-leb (c.args.n / 10000) 9999 c.if-year-gt9999.false, le-leb 1 (c.args.n / 100 % 100) c.if-month-lt1.false, lt-leb (c.args.n / 100 % 100) 12 c.if-month-gt12.true)

pub returns-then-day-lt1 : goal.returns-then-day-lt1
unfolding is_date
returns-then-day-lt1 c = rw (le-leb 1 (c.args.n / 10000) c.if-year-lt1.false, le-leb (c.args.n / 10000) 9999 c.if-year-gt9999.false, le-leb 1 (c.args.n / 100 % 100) c.if-month-lt1.false, le-leb (c.args.n / 100 % 100) 12 c.if-month-gt12.false, lt-leb 1 (c.args.n % 100) c.if-day-lt1.true)

pub returns : goal.returns
unfolding is_date
returns c = rw (le-leb 1 (c.args.n / 10000) c.if-year-lt1.false, le-leb (c.args.n / 10000) 9999 c.if-year-gt9999.false, le-leb 1 (c.args.n / 100 % 100) c.if-month-lt1.false, le-leb (c.args.n / 100 % 100) 12 c.if-month-gt12.false, le-leb 1 (c.args.n % 100) c.if-day-lt1.false, c.month_days.ensures, c.is_leap.ensures)
