use Rattle.std.proofs.Common.{rules}
use Rattle.columns.specs.Number.{outside_at, beyond}
use Rattle.columns.proofs.number.outside.Goals as goal

pub returns : goal.returns
unfolding outside_at beyond
returns c = c.some_counted.ensures (outside_at c.args.s.now c.args.lo c.args.hi) (λ k l b p. search rules)
