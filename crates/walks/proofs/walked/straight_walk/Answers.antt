-- `walks::walked::straight_walk` meets its contract.

use Rattle.walks.proofs.walked.straight_walk.Goals as goal

pub returns : goal.returns
returns c = rw (c.on_path.ensures, c.on_two.ensures)
