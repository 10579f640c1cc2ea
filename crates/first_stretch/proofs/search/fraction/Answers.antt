-- `first_stretch::search::fraction` meets its contract.
use Rattle.first_stretch.specs.Search.{fraction_of}
use Rattle.first_stretch.proofs.Micro.{micro_is}
use Rattle.first_stretch.proofs.search.fraction.Goals as goal

pub returns : goal.returns
unfolding fraction_of
returns c = rw (c.clamp01.ensures, c.max_of.ensures, micro_is)
