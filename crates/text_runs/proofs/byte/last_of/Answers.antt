use borrow.Author.Tests.{ne_eqb}
use mathlib.Core.Path.{◌∙◌}
use Rattle.ids.proofs.Search.{last_skip}
use Rattle.text_runs.specs.Runs.{byte_is}
use Rattle.text_runs.proofs.byte.last_of.Goals as goal

pub loop-k-preserved : goal.loop-k-preserved
loop-k-preserved c =
    c.loop-k.invariant ∙ last_skip (byte_is c.args.s.now c.args.byte) c.loop-k.k c.loop-k-test.true (ne_eqb _ _ c.if-s-k.false)
