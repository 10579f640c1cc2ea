-- `nearest::vertex::far_from` meets its contract.
use lib.Ieee.{of_bits}
use Rattle.nearest.proofs.Least.{far_above, far_none}
use Rattle.nearest.proofs.vertex.far_from.Goals as goal

pub returns-then-distance-root : goal.returns-then-distance-root
returns-then-distance-root c = far_above _ _ _ c.root.ensures c.if-distance-root.true

pub returns-else-distance-root : goal.returns-else-distance-root
unfolding of_bits
returns-else-distance-root c = far_none _
