-- `walks::walked::chain_walked` meets its contract.
use Rattle.chains.specs.Route.{on_chain}
use Rattle.leg_paths.proofs.Choice.{in_reach}
use Rattle.walks.proofs.walked.chain_walked.Goals as goal

pub chain_walk-on-requires : goal.chain_walk-on-requires
chain_walk-on-requires c = let a = c.args in in_reach a.lent.now.words.now a.c a.from a.to a.trip _ c.requires c.leg_rows-chain.ensures

pub returns : goal.returns
unfolding on_chain
returns c = rw (c.on_path.ensures, c.chain_walk-on.ensures, c.leg_rows-chain.ensures)
