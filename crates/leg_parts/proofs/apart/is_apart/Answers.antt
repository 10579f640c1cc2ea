use Rattle.std.proofs.Common.{rules}
use Rattle.std.specs.Float.Ieee.{of_bits}
use Rattle.leg_parts.specs.Parts.{apart}
use Rattle.unit_scales.specs.Scale.{decimal}
use Rattle.leg_parts.proofs.apart.is_apart.Goals as goal

pub returns-then-abs : goal.returns-then-abs
unfolding apart decimal of_bits
returns-then-abs c = search rules

pub returns-else-abs : goal.returns-else-abs
unfolding apart decimal of_bits
returns-else-abs c = search rules
