use Rattle.std.proofs.Common.{rules, ap, ◌∙◌}
use Rattle.columns.specs.Rows.{some}
use Rattle.column_ids.specs.Text.{bad_id_at}
use Rattle.column_ids.proofs.text.bad_ids.Goals as goal

pub returns : goal.returns
unfolding bad_id_at
returns c =
    let a = c.args in
    c.some_counted.ensures (bad_id_at a.bytes.now a.starts.now a.lens.now a.empty) (λ k l b p. search rules) ∙ ap (some _) c.min-rows.ensures
