use Rattle.std.proofs.Common.{rules, ap, ◌∙◌}
use Rattle.columns.specs.Number.{ends_past_at}
use Rattle.columns.specs.Rows.{some}
use Rattle.columns.proofs.number.ends_past.Goals as goal

pub returns : goal.returns
unfolding ends_past_at
returns c = c.some_counted.ensures (ends_past_at c.args.first.now c.args.count.now c.args.n) (λ k l b p. search rules) ∙ ap (some _) c.min-rows.ensures
