-- `chain_stretches::close::near` meets its contract.
use Rattle.chain_stretches.specs.Near.{is_close, is_near}
use Rattle.chain_stretches.proofs.Small.{nano_is}
use Rattle.chain_stretches.proofs.close.near.Goals as goal

pub returns-then-abs : goal.returns-then-abs
unfolding is_near is_close
returns-then-abs c = rw (← nano_is, ← c.abs.ensures, c.if-abs.true, c.abs-then-abs.ensures)

pub returns : goal.returns
unfolding is_near is_close
returns c = rw (← nano_is, ← c.abs.ensures, c.if-abs.false)
