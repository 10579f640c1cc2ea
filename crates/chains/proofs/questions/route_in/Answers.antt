-- `chains::questions::route_in` meets its contract.
use Rattle.chains.specs.Route.{chain_route}
use Rattle.routes.specs.Route.{route_of}
use Rattle.chains.proofs.questions.route_in.Goals as goal

pub mark-kept-requires : goal.mark-kept-requires
mark-kept-requires c = record { count_bound = c.requires.count_bound; by_index = c.requires.by_index }

pub new-line-requires : goal.new-line-requires
new-line-requires c = record { marked = c.mark-kept.ensures.marked; kept_value = c.mark-kept.ensures.value }

pub returns : goal.returns
unfolding chain_route route_of
returns c = rw (c.length_of.ensures, c.whole-part.ensures, c.new-line.ensures)
