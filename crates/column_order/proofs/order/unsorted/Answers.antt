use Rattle.std.proofs.Common.{rules, ap, ◌∙◌}
use Rattle.columns.specs.Rows.{some}
use Rattle.column_order.specs.Order.{out_of_order_at}
use Rattle.column_order.proofs.order.unsorted.Goals as goal

pub returns : goal.returns
unfolding out_of_order_at
returns c =
    let a = c.args in
    c.some_row.ensures (out_of_order_at a.lent.now.bytes.now a.lent.now.words.now a.key) (λ k l b p. search rules) ∙ ap (some _) c.saturating_sub.ensures
