-- `chain_rows::chain::chain_of` meets its contract.
use borrow.Author.Tests.{lt-ltb, le-ltb}
use Rattle.chain_rows.specs.Rows.{leg_chain}
use Rattle.chain_rows.proofs.chain.chain_of.Goals as goal

pub returns-then-t-s : goal.returns-then-t-s
unfolding leg_chain
returns-then-t-s c = rw (lt-ltb _ _ c.if-t-s.true, c.cell-count.ensures, c.cell-first.ensures)

pub returns : goal.returns
unfolding leg_chain
returns c = rw (le-ltb _ _ c.if-t-s.false, c.cell-count.ensures, c.cell-first.ensures)
