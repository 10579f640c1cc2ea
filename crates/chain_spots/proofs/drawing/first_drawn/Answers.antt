-- `chain_spots::drawing::first_drawn` meets its contract.
use lib.Ieee.{of_bits}
use Rattle.chain_spots.proofs.Turns.{first_two, first_alone}
use Rattle.chain_spots.proofs.drawing.first_drawn.Goals as goal

pub onward-there-requires : goal.onward-there-requires
onward-there-requires c = c.seek-here.ensures

pub returns-then-part : goal.returns-then-part
returns-then-part c = rw (c.on_two.ensures, c.seek-here.ensures.is, c.onward-there.ensures.is) (first_two _ _ c.if-part.true)

pub returns-else-part : goal.returns-else-part
unfolding of_bits
returns-else-part c = rw c.seek-here.ensures.is (first_alone _ _ c.if-part.false)
