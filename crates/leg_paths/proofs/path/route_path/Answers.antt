-- `leg_paths::path::route_path` meets its contract.
use borrow.Author.Rules.{rules}
use mathlib.Core.Path.{sym, ◌∙◌}
use Rattle.leg_paths.proofs.path.route_path.Goals as goal

pub chain_path-requires : goal.chain_path-requires
chain_path-requires c = c.requires

pub returns-in-Some : goal.returns-in-Some
returns-in-Some c = rw (sym c.route_between.ensures ∙ c.in-Some.is)

pub returns-in-None : goal.returns-in-None
returns-in-None c = rw (sym c.route_between.ensures ∙ c.in-None.is, c.chain_path.ensures)
