-- `interpolate::operation::interpolate` meets its contract.
use mathlib.Core.Path.{sym}
use Rattle.answers.proofs.Told.{told, handed_on}
use Rattle.interpolate.specs.Answers.{interpolation_of}
use Rattle.interpolate.proofs.operation.interpolate.Goals as goal

pub returns-in_err-check_interpolation : goal.returns-in_err-check_interpolation
unfolding interpolation_of
returns-in_err-check_interpolation c = handed_on _ _ _ _ c.from_residual.ensures.1 (rw c.chart.ensures at c.in_err-check_interpolation.ensures)

pub returns : goal.returns
unfolding interpolation_of
returns c = rw (← c.lent.ensures) (told _ _ (sym (rw c.chart.ensures at c.in_ok-check_interpolation.ensures)))
