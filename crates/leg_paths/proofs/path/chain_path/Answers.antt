-- `leg_paths::path::chain_path` meets its contract.
use Rattle.chains.specs.Route.{chain_route}
use Rattle.leg_paths.proofs.Choice.{in_reach}
use Rattle.leg_paths.proofs.path.chain_path.Goals as goal

pub chain_route-requires : goal.chain_route-requires
chain_route-requires c = let a = c.args in in_reach a.lent.now.words.now a.c a.from a.to a.trip _ c.requires c.leg_rows-chain.ensures

pub returns : goal.returns
unfolding chain_route
returns c = rw (c.chain_route.ensures, c.leg_rows-chain.ensures)
