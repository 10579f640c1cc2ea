-- `chain_lines::kept::after` meets its contract.
use borrow.Author.Rules.{rules}
use Rattle.chain_lines.proofs.kept.after.Goals as goal

pub returns-then-keep : goal.returns-then-keep
returns-then-keep c = rw (c.if-keep.true, c.point_or.ensures)

pub returns : goal.returns
returns c = rw c.if-keep.false
