-- `chains::questions::walk_in` meets its contract.
use Rattle.chains.specs.Route.{on_chain}
use Rattle.chains.proofs.questions.walk_in.Goals as goal

pub mark-kept-requires : goal.mark-kept-requires
mark-kept-requires c = record { count_bound = c.requires.count_bound; by_index = c.requires.by_index }

pub new-line-requires : goal.new-line-requires
new-line-requires c = record { marked = c.mark-kept.ensures.marked; kept_value = c.mark-kept.ensures.value }

pub returns : goal.returns
unfolding on_chain
returns c = rw (c.drawn.ensures, c.along-spot.ensures, c.new-line.ensures)
