-- `near_vertex::forward::last_near` meets its contract.
use lib.Ieee.{of_bits, of_int}
use Rattle.near_vertex.proofs.forward.last_near.Goals as goal

pub returns : goal.returns
unfolding of_bits of_int
returns c = rw (c.last_within.ensures, c.least_from-best.ensures)
