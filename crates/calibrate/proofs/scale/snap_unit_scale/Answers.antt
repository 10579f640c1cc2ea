-- `calibrate::scale::snap_unit_scale` meets its contract.
use mathlib.Core.Path.{sym}
use Rattle.answers.proofs.Told.{told, handed_on}
use Rattle.calibrate.specs.Answers.{snapped_of}
use Rattle.calibrate.proofs.scale.snap_unit_scale.Goals as goal

pub returns-in_err-check_calibration : goal.returns-in_err-check_calibration
unfolding snapped_of
returns-in_err-check_calibration c = handed_on _ _ _ _ c.from_residual.ensures.1 (rw c.chart.ensures at c.in_err-check_calibration.ensures)

pub returns : goal.returns
unfolding snapped_of
returns c = rw (← c.cut.ensures, ← c.first_scale.ensures) (told _ _ (sym (rw c.chart.ensures at c.in_ok-check_calibration.ensures)))
