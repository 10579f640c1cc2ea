-- `column_order::order::by_ids` meets its contract. Each return: the first part that differs decides.
use mathlib.Core.Path.{sym, ◌∙◌}
use Rattle.column_order.specs.Order.{cmp_rows, parts_of}
use Rattle.column_order.proofs.Keys.{part_less, part_more, part_same, only_part}
use Rattle.column_order.proofs.order.by_ids.Goals as goal

pub returns-in-Less : goal.returns-in-Less
unfolding cmp_rows parts_of
returns-in-Less c = part_less _ _ _ _ c.by_id.ensures c.in-Less.is

pub returns-in-Greater : goal.returns-in-Greater
unfolding cmp_rows parts_of
returns-in-Greater c = part_more _ _ _ _ c.by_id.ensures c.in-Greater.is

pub returns : goal.returns
unfolding cmp_rows parts_of
returns c = part_same _ _ _ _ c.by_id.ensures c.in-Equal.is (c.by_id-2.ensures ∙ sym (only_part _ _))
