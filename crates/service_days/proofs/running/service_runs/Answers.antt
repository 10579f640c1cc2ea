use borrow.Author.Rules.{rules}
use mathlib.Core.Path.{sym}
use Rattle.tables.specs.Pools.{pools_of}
use Rattle.service_days.specs.Services.{running_of}
use Rattle.service_days.proofs.Holds.{service_ready}
use Rattle.answers.proofs.Told.{told, handed_on}
use Rattle.service_days.proofs.running.service_runs.Goals as goal

pub returns-in_err-check_service : goal.returns-in_err-check_service
unfolding running_of
returns-in_err-check_service c = handed_on _ _ _ _ c.from_residual.ensures.1 (rw c.chart.ensures at c.in_err-check_service.ensures)

pub is_running-requires : goal.is_running-requires
is_running-requires c = service_ready (pools_of c.args.lent.now) c.args.t c.args.s (rw c.chart.ensures at (sym c.in_ok-check_service.ensures))

pub returns : goal.returns
unfolding running_of
returns c = rw (← c.is_running.ensures) (told _ _ (sym (rw c.chart.ensures at c.in_ok-check_service.ensures)))
