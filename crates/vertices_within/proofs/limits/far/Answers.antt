-- `vertices_within::limits::far` meets its contract.
use Rattle.std.specs.Float.Ieee.{of_bits}
use Rattle.reach.proofs.Past.{past_infinity}
use Rattle.vertices_within.proofs.limits.far.Goals as goal

pub returns-then-left-lt3 : goal.returns-then-left-lt3
unfolding of_bits
returns-then-left-lt3 c = past_infinity _
