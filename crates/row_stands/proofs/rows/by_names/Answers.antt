-- `row_stands::rows::by_names` meets its contract. Each return: the first part that differs decides.
use borrow.Author.Rules.{rules}
use mathlib.Core.Path.{◌∙◌, sym}
use Rattle.column_order.proofs.Keys.{only_part, part_less, part_more, part_same}
use Rattle.row_stands.specs.Stands.{key_of, parts_at, stand_of}
use Rattle.ids.proofs.compare.Reads as compare-reads
use Rattle.ids.proofs.id.Reads as id-reads
use Rattle.row_stands.proofs.rows.by_names.Goals as goal

pub returns-in-Less : goal.returns-in-Less
unfolding stand_of parts_at key_of
returns-in-Less c = part_less _ _ _ _ (rw c.id.ensures at c.compare.ensures) c.in-Less.is

pub returns-in-Greater : goal.returns-in-Greater
unfolding stand_of parts_at key_of
returns-in-Greater c = part_more _ _ _ _ (rw c.id.ensures at c.compare.ensures) c.in-Greater.is

pub returns : goal.returns
unfolding stand_of parts_at key_of
returns c = part_same _ _ _ _ (rw c.id.ensures at c.compare.ensures) c.in-Equal.is ((rw c.id-2.ensures at c.compare-2.ensures) ∙ sym (only_part _ _))
