-- `column_order::order::compare_rows` meets its contract. Each arm: the key is that of the function called.
use mathlib.Core.Path.{sym, ◌∙◌}
use Rattle.column_order.specs.Order.{cmp_rows, parts_of}
use Rattle.column_order.proofs.Keys.{only_part}
use Rattle.column_order.proofs.order.compare_rows.Goals as goal

pub returns-in-Word : goal.returns-in-Word
unfolding cmp_rows parts_of
returns-in-Word c = rw c.in-Word.is (c.by_word.ensures ∙ sym (only_part _ _))

pub returns-in-Id : goal.returns-in-Id
unfolding cmp_rows parts_of
returns-in-Id c = rw c.in-Id.is (c.by_id.ensures ∙ sym (only_part _ _))

pub returns-in-IdWord : goal.returns-in-IdWord
returns-in-IdWord c = rw c.in-IdWord.is c.by_id_word.ensures

pub returns-in-Ids : goal.returns-in-Ids
returns-in-Ids c = rw c.in-Ids.is c.by_ids.ensures

pub returns-in-Dated : goal.returns-in-Dated
returns-in-Dated c = rw c.in-Dated.is c.by_date.ensures
