-- `chain_spots::drawing::straight_drawn` meets its contract.

use Rattle.chain_spots.proofs.drawing.straight_drawn.Goals as goal

pub returns : goal.returns
returns c = rw (c.on_two.ensures, c.seek-here.ensures.is, c.seek-there.ensures.is)
