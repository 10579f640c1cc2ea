-- `calibration::samples::samples_affine` meets its contract.
use Rattle.std.proofs.Common.{arith, le-ltb, lt-ltb}
use Rattle.calibration.specs.Samples.{samples_affine}
use Rattle.calibration.proofs.samples.samples_affine.Goals as goal

pub returns-then-n-lt2 : goal.returns-then-n-lt2
unfolding samples_affine
returns-then-n-lt2 c = rw (← c.count-n.ensures, lt-ltb _ _ c.if-n-lt2.true)

pub sample-first-requires : goal.sample-first-requires
sample-first-requires c = omega (arith, c.count-n.ensures)

pub sample-last-requires : goal.sample-last-requires
sample-last-requires c = omega (arith, c.count-n.ensures)

pub returns : goal.returns
unfolding samples_affine
returns c =
    rw (c.shape_dist_affine.ensures, c.sample-last.ensures, c.sample-first.ensures, ← c.count-n.ensures, le-ltb _ _ c.if-n-lt2.false)
