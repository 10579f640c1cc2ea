-- `nearest::vertex::nearest_idx` meets its contract.
use lib.Ieee.{of_bits}
use Rattle.nearest.proofs.Least.{found, not_found}
use Rattle.nearest.proofs.vertex.nearest_idx.Goals as goal

pub first_near-requires : goal.first_near-requires
first_near-requires c = c.far_from.ensures

pub returns-then-distance : goal.returns-then-distance
unfolding of_bits
returns-then-distance c =
    found _ _ c.least_square-least.ensures c.root-distance.ensures c.if-distance.true c.first_near.ensures

pub returns-else-distance : goal.returns-else-distance
unfolding of_bits
returns-else-distance c = not_found _ _ c.least_square-least.ensures c.root-distance.ensures c.if-distance.false
