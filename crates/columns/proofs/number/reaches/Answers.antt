use Rattle.std.proofs.Common.{rules}
use Rattle.columns.specs.Number.{reaches_at}
use Rattle.columns.proofs.number.reaches.Goals as goal

pub returns : goal.returns
unfolding reaches_at
returns c = c.some_counted.ensures (reaches_at c.args.s.now c.args.n) (λ k l b p. search rules)
