-- `chain_lines::stop::point_or` meets its contract.
use borrow.Author.Rules.{rules}
use Rattle.chain_lines.proofs.stop.point_or.Goals as goal

pub returns-in-Some : goal.returns-in-Some
returns-in-Some c = rw c.in-Some.is

pub returns-in-None : goal.returns-in-None
returns-in-None c = rw (c.in-None.is, c.no_point.ensures)
