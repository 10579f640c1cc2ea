-- `chain_spots::drawing::last_drawn` meets its contract.
use Rattle.stretches.specs.Drawing.{last_of}
use Rattle.chain_spots.proofs.drawing.last_drawn.Goals as goal

pub returns : goal.returns
unfolding last_of
returns c = rw (c.on_two.ensures, c.seek-here.ensures.is, c.seek-there.ensures.is, c.saturating_sub.ensures)
