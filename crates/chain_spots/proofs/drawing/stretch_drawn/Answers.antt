-- `chain_spots::drawing::stretch_drawn` meets its contract.

use Rattle.chain_spots.proofs.drawing.stretch_drawn.Goals as goal

pub onward-there-requires : goal.onward-there-requires
onward-there-requires c = c.seek-here.ensures

pub returns : goal.returns
returns c = rw (c.on_two.ensures, c.seek-here.ensures.is, c.onward-there.ensures.is)
