use borrow.Author.Tests.{eq-eqb}
use Rattle.ids.proofs.Search.{first_hit}
use Rattle.text_runs.specs.Runs.{byte_is, first_byte}
use Rattle.text_runs.proofs.byte.first_of.Goals as goal

pub returns-then-b-byte : goal.returns-then-b-byte
unfolding first_byte
returns-then-b-byte c = first_hit (byte_is c.args.s.now c.args.byte) _ c.loop-k.k c.loop-k-test.true (eq-eqb _ _ c.if-b-byte.true) c.loop-k.invariant
