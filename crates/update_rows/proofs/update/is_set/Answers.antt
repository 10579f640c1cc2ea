use borrow.Author.Rules.{rules}
use borrow.Author.Tests.{eq-eqb, ne_eqb}
use Rattle.update_rows.specs.Updates.{is_set}
use Rattle.update_rows.proofs.update.is_set.Goals as goal

pub returns-then-bit-eq0 : goal.returns-then-bit-eq0
unfolding is_set
returns-then-bit-eq0 c = rw (← c.bit.ensures, eq-eqb _ _ c.if-bit-eq0.true)

pub returns : goal.returns
unfolding is_set
returns c = rw (← c.bit.ensures, ne_eqb _ _ c.if-bit-eq0.false)
