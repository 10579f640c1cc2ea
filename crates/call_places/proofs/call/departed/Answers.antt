-- `call_places::call::departed` meets its contract.
use borrow.Author.Rules.{rules}
use Rattle.call_places.proofs.call.departed.Goals as goal

pub returns : goal.returns
returns c = c.at_call.ensures
