-- `column_order::order::by_id` meets its contract.
use mathlib.Core.Path.{◌∙◌}
use Rattle.column_order.proofs.Keys.{same_texts}
use Rattle.column_order.proofs.order.by_id.Goals as goal

pub returns : goal.returns
returns c = c.compare.ensures ∙ same_texts c.id.ensures c.id-2.ensures
