use Rattle.std.proofs.Common.{refl}
use Rattle.std.specs.Float.Ieee.{of_bits}
use Rattle.nearest.specs.Squares.{least_in}
use Rattle.nearest.proofs.vertex.least_square.Goals as goal

pub loop-k-init : goal.loop-k-init
unfolding least_in of_bits
loop-k-init c = refl
