-- `chain_lines::kept::keeps` meets its contract.
use borrow.Author.Rules.{rules}
use Rattle.chain_lines.proofs.kept.keeps.Goals as goal

pub returns-in-Some : goal.returns-in-Some
returns-in-Some c = rw (c.in-Some.is, c.drops.ensures)

pub returns-in-None : goal.returns-in-None
returns-in-None c = rw c.in-None.is
