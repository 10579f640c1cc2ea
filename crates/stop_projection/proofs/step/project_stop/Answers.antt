-- `stop_projection::step::project_stop` meets its contract.
use mathlib.Core.Path.{sym}
use Rattle.answers.proofs.Told.{told, handed_on}
use Rattle.stop_projection.specs.Step.{stepped_of}
use Rattle.stop_projection.proofs.step.project_stop.Goals as goal

pub returns-in_err-check_step : goal.returns-in_err-check_step
unfolding stepped_of
returns-in_err-check_step c = handed_on _ _ _ _ c.from_residual.ensures.1 c.in_err-check_step.ensures

pub returns : goal.returns
unfolding stepped_of
returns c = rw (← c.step.ensures) (told _ _ (sym c.in_ok-check_step.ensures))
