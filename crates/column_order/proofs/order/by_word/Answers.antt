-- `column_order::order::by_word` meets its contract.
use mathlib.Core.Path.{◌∙◌}
use Rattle.column_order.proofs.Keys.{same_words}
use Rattle.column_order.proofs.order.by_word.Goals as goal

pub returns : goal.returns
returns c = c.numbers.ensures ∙ same_words c.cell.ensures c.cell-2.ensures
