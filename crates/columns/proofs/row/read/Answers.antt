use Rattle.columns.proofs.Scan.{read_all, read_flagged}
use Rattle.columns.proofs.row.read.Goals as goal

pub returns-then-all : goal.returns-then-all
returns-then-all c = read_all _ _ _ c.if-all.true

pub returns-else-all : goal.returns-else-all
returns-else-all c = read_flagged _ _ _ c.if-all.false c.min.ensures
