-- `scheduled_runs::run::run_seconds` meets its contract.
use borrow.Author.Rules.{rules}
use Rattle.scheduled_runs.specs.Run.{run_among}
use Rattle.row_tests.proofs.Rows.{sum_less}
use Rattle.scheduled_runs.proofs.run.run_seconds.Goals as goal

pub returns-in_default : goal.returns-in_default
returns-in_default c = rw c.in_default.is

pub returns : goal.returns
unfolding run_among
returns c =
    rw (c.in-Some.is, c.between.ensures, c.last_with-departs.ensures, c.last_with-arrives.ensures, c.cell-n.ensures, c.cell-first.ensures, sum_less)
