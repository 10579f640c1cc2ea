-- `chain_stretches::search::met` meets its contract.
use Rattle.first_stretch.specs.Search.{meets}
use Rattle.chain_stretches.proofs.Small.{nano_is}
use Rattle.chain_stretches.proofs.search.met.Goals as goal

pub returns-then-target-from : goal.returns-then-target-from
unfolding meets
returns-then-target-from c = rw (← nano_is, c.if-target-from.true)

pub returns : goal.returns
unfolding meets
returns c = rw c.if-target-from.false
