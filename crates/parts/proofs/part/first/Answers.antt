-- `parts::part::first` meets its contract: the part from 0 on.

use Rattle.parts.proofs.part.first.Goals as goal

pub returns : goal.returns
returns c = c.part.ensures
