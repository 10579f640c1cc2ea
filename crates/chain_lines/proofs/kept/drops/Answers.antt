-- `chain_lines::kept::drops` meets its contract.
use borrow.Author.Tests.{lt-ltb, le-ltb}
use Rattle.chain_lines.specs.Kept.{is_dropped}
use Rattle.chain_lines.proofs.kept.drops.Goals as goal

pub returns-then-last-gt0 : goal.returns-then-last-gt0
unfolding is_dropped
returns-then-last-gt0 c = rw (lt-ltb _ _ c.if-last-gt0.true, c.near.ensures)

pub returns : goal.returns
unfolding is_dropped
returns c = rw (le-ltb _ _ c.if-last-gt0.false)
