-- `walks::walked::route_walk` meets its contract.

use Rattle.walks.proofs.walked.route_walk.Goals as goal

pub returns : goal.returns
returns c = rw (c.on_path.ensures, c.draw.ensures, c.spot_along-spot.ensures)
