-- `MarkedChain::start` meets its contract.
use Rattle.std.proofs.Common.{sym, ◌∙◌}
use Rattle.chain_vertices.proofs.Standing.{starts, starts_bare}
use Rattle.chain_vertices.proofs.vertices.MarkedChain.start.Goals as goal

pub returns-in-Some : goal.returns-in-Some
returns-in-Some c = starts _ _ _ c.args.self.now.right _ (sym c.next.ensures ∙ c.in-Some.is)

pub returns-in-None : goal.returns-in-None
returns-in-None c = starts_bare _ _ _ c.args.self.now.right (sym c.next.ensures ∙ c.in-None.is)
