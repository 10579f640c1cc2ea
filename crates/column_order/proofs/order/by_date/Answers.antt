-- `column_order::order::by_date` meets its contract. Each return: the first part that differs decides.
use mathlib.Core.Path.{sym, ◌∙◌}
use Rattle.column_order.specs.Order.{cmp_rows, parts_of}
use Rattle.column_order.proofs.Keys.{two_less, two_more, two_same, part_less, part_more, part_same, only_part, same_words}
use Rattle.column_order.proofs.order.by_date.Goals as goal

pub returns-in-Less : goal.returns-in-Less
unfolding cmp_rows parts_of
returns-in-Less c = two_less _ _ _ _ _ _ c.by_ids.ensures c.in-Less.is

pub returns-in-Greater : goal.returns-in-Greater
unfolding cmp_rows parts_of
returns-in-Greater c = two_more _ _ _ _ _ _ c.by_ids.ensures c.in-Greater.is

pub returns-in-Less-by_word : goal.returns-in-Less-by_word
unfolding cmp_rows parts_of
returns-in-Less-by_word c = two_same _ _ _ _ _ _ c.by_ids.ensures c.in-Equal.is (part_less _ _ _ _ c.by_word.ensures c.in-Less-by_word.is)

pub returns-in-Greater-by_word : goal.returns-in-Greater-by_word
unfolding cmp_rows parts_of
returns-in-Greater-by_word c = two_same _ _ _ _ _ _ c.by_ids.ensures c.in-Equal.is (part_more _ _ _ _ c.by_word.ensures c.in-Greater-by_word.is)

pub returns : goal.returns
unfolding cmp_rows parts_of
returns c = two_same _ _ _ _ _ _ c.by_ids.ensures c.in-Equal.is (part_same _ _ _ _ c.by_word.ensures c.in-Equal-by_word.is (c.numbers.ensures ∙ same_words c.bit.ensures c.bit-2.ensures ∙ sym (only_part _ _)))
