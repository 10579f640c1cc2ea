use Rattle.std.proofs.Common.{rules}
use Rattle.std.specs.Float.Ieee.{of_bits}
use Rattle.stretches.specs.Drawing.{first_of}
use Rattle.stretches.proofs.drawing.first_of.Goals as goal

pub returns-else-part : goal.returns-else-part
unfolding first_of of_bits
returns-else-part c = search rules
