-- `legs::walk::at_end` meets its contract.

use Rattle.legs.proofs.walk.at_end.Goals as goal

pub returns : goal.returns
returns c = rw c.bearing.ensures
