-- `legs::walk::at_start` meets its contract.

use Rattle.legs.proofs.walk.at_start.Goals as goal

pub returns : goal.returns
returns c = rw c.bearing.ensures
