use Rattle.std.proofs.Common.{rules}
use Rattle.std.specs.Float.Ieee.{of_bits}
use Rattle.unit_scales.specs.Metres.{is_scale}
use Rattle.unit_scales.proofs.metres.is_scale.Goals as goal

pub returns-then-b : goal.returns-then-b
unfolding is_scale of_bits
returns-then-b c = search rules

pub returns-else-b : goal.returns-else-b
unfolding is_scale of_bits
returns-else-b c = search rules
