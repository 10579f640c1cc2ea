-- `calibrate::affine::shape_dist_affine` meets its contract.
use mathlib.Core.Path.{sym}
use Rattle.answers.proofs.Told.{told, handed_on}
use Rattle.calibrate.specs.Answers.{calibration_of}
use Rattle.calibrate.proofs.affine.shape_dist_affine.Goals as goal

pub returns-in_err-check_calibration : goal.returns-in_err-check_calibration
unfolding calibration_of
returns-in_err-check_calibration c = handed_on _ _ _ _ c.from_residual.ensures.1 (rw c.chart.ensures at c.in_err-check_calibration.ensures)

pub returns : goal.returns
unfolding calibration_of
returns c = rw (← c.lent_affine.ensures) (told _ _ (sym (rw c.chart.ensures at c.in_ok-check_calibration.ensures)))
