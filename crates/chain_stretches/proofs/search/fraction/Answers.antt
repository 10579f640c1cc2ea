-- `chain_stretches::search::fraction` meets its contract.
use Rattle.first_stretch.specs.Search.{fraction_of}
use Rattle.chain_stretches.proofs.Small.{micro_is}
use Rattle.chain_stretches.proofs.search.fraction.Goals as goal

pub returns : goal.returns
unfolding fraction_of
returns c = rw (c.clamp01.ensures, c.max_of.ensures, micro_is)
