-- `walks::walked::distance_walk` meets its contract.

use Rattle.walks.proofs.walked.distance_walk.Goals as goal

pub returns : goal.returns
returns c = rw (c.on_path.ensures, c.draw.ensures, c.whole-part.ensures, c.spot_over-spot.ensures)
