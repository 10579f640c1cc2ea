-- The metres along a line that a feed's distances stand for, by two samples. Definitions only.
use Rattle.unit_scales.specs.declared.metres.Affine.{Affine}
use Rattle.std.specs.Prelude.{cond, List, length, nat_lt, Option, None}
use Rattle.running_lengths.specs.Length.{length_to}
use Rattle.lengths.specs.declared.line.Point.{Point}
use Rattle.near_vertex.specs.Forward.{forward_shape_index, forward_last_index}
use Rattle.unit_scales.specs.Metres.{affine_between}
use Rattle.calibration.specs.declared.affine.Sample.{Sample}

-- from the first and the last sample of a trip: the first lies at the first vertex near it, the last at the last near it from there on
unfoldable pub shape_dist_affine : List Point → Sample → Sample → Option Affine
shape_dist_affine line s0 s1 =
    let i0 = forward_shape_index line 0 s0.at in
    let i1 = forward_last_index line i0 s1.at in
    cond (nat_lt (length line) 2) None (affine_between s0.dist (length_to line i0) s1.dist (length_to line i1))
