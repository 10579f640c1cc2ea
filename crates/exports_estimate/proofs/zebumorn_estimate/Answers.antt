-- `exports_estimate::zebumorn_estimate` meets its contract.
use borrow.Author.Rules.{rules}
use Rattle.exports_estimate.proofs.zebumorn_estimate.Goals as goal

pub returns : goal.returns
returns c = rw (← c.estimate.ensures) c.tell.ensures
