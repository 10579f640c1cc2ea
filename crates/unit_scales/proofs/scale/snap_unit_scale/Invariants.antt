-- The first of all units is the first of those that are left.
use Rattle.std.proofs.Common.{◌≡◌, drop}
use Rattle.unit_scales.specs.Scale.{first_near, snap_unit_scale}
use Rattle.unit_scales.proofs.scale.snap_unit_scale.Given as goal

abbrev pub invariant-loop-unit : goal.invariant-loop-unit
invariant-loop-unit l = first_near (drop l.unit-index l.unit-items) l.ratio ≡ snap_unit_scale l.ratio
