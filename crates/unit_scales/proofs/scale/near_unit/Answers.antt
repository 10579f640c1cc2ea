use Rattle.std.proofs.Common.{rules}
use Rattle.std.specs.Float.Ieee.{of_bits}
use Rattle.unit_scales.specs.Scale.{near_unit, decimal}
use Rattle.unit_scales.proofs.scale.near_unit.Goals as goal

pub returns-then-ratio : goal.returns-then-ratio
unfolding near_unit decimal of_bits
returns-then-ratio c = search rules

pub returns-else-ratio : goal.returns-else-ratio
unfolding near_unit of_bits
returns-else-ratio c = search rules
