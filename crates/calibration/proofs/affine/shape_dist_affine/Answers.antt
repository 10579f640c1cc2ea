-- `calibration::affine::shape_dist_affine` meets its contract.
use Rattle.std.proofs.Common.{le-ltb, lt-ltb}
use Rattle.calibration.specs.Affine.{shape_dist_affine}
use Rattle.calibration.proofs.affine.shape_dist_affine.Goals as goal

pub returns-then-vertices-lt2 : goal.returns-then-vertices-lt2
unfolding shape_dist_affine
returns-then-vertices-lt2 c = rw (← c.vertices.ensures, lt-ltb _ _ c.if-vertices-lt2.true)

pub returns : goal.returns
unfolding shape_dist_affine
returns c =
    rw (← c.vertices.ensures, le-ltb _ _ c.if-vertices-lt2.false, c.between.ensures, c.length_to-m1.ensures, c.length_to-m0.ensures, c.forward_last_index-i1.ensures, c.forward_shape_index-i0.ensures)
