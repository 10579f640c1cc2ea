use Rattle.std.proofs.Common.{sym, ◌∙◌, arith}
use Rattle.std.specs.Float.{nan}
use Rattle.backfill.proofs.Telling.{from_none, one_more, no_more}
use Rattle.backfill.proofs.ends.ends_of.Goals as goal

pub loop-k-init : goal.loop-k-init
loop-k-init c = from_none _ _ _ _ _

pub loop-k-preserved : goal.loop-k-preserved
loop-k-preserved c = c.loop-k.invariant ∙ one_more _ _ _ _ _ c.loop-k.ends c.loop-k.k nan c.loop-k-test.true c.requires.n_value c.requires.n_value_2 c.row_position.ensures c.pass-ends.ensures

pub returns : goal.returns
returns c = sym (c.loop-k.invariant ∙ no_more _ _ _ _ _ c.loop-k.ends c.loop-k.k (omega arith))
