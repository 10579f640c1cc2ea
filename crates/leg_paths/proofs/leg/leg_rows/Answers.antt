-- `leg_paths::leg::leg_rows` meets its contract.
use borrow.Author.Rules.{rules}
use Rattle.leg_paths.proofs.leg.leg_rows.Goals as goal

pub returns-in-Some : goal.returns-in-Some
returns-in-Some c = rw (c.in-Some.is, c.chain_of.ensures)

pub returns-in-None : goal.returns-in-None
returns-in-None c = rw c.in-None.is
