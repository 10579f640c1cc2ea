-- `chain_lines::stop::is_between` meets its contract.
use borrow.Author.Tests.{le-leb, lt-leb}
use Rattle.chain_lines.specs.Stops.{is_between}
use Rattle.chain_lines.proofs.stop.is_between.Goals as goal

pub returns-then-sequence-lo : goal.returns-then-sequence-lo
unfolding is_between
returns-then-sequence-lo c = rw (← c.cell-sequence.ensures, lt-leb _ _ c.if-sequence-lo.true)

pub returns-then-hi-sequence : goal.returns-then-hi-sequence
unfolding is_between
returns-then-hi-sequence c = rw (← c.cell-sequence.ensures, le-leb _ _ c.if-sequence-lo.false, lt-leb _ _ c.if-hi-sequence.true)

pub returns : goal.returns
unfolding is_between
returns c = rw (← c.cell-sequence.ensures, le-leb _ _ c.if-sequence-lo.false, le-leb _ _ c.if-hi-sequence.false)
