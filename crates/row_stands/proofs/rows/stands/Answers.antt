use borrow.Author.Rules.{rules}
use mathlib.Core.Path.{◌∙◌, sym}
use Rattle.column_order.proofs.Keys.{only_part}
use Rattle.row_stands.specs.Stands.{key_of, parts_at, stand_of}
use Rattle.ids.proofs.compare.Reads as compare-reads
use Rattle.ids.proofs.id.Reads as id-reads
use Rattle.row_stands.proofs.rows.by_day.Reads as by-day-reads
use Rattle.row_stands.proofs.rows.by_names.Reads as by-names-reads
use Rattle.row_stands.proofs.rows.stands.Goals as goal

pub returns-in-Ranges : goal.returns-in-Ranges
unfolding stand_of parts_at key_of
returns-in-Ranges c = rw c.in-Ranges.is c.by_names.ensures

pub returns-in-Exceptions : goal.returns-in-Exceptions
unfolding stand_of parts_at key_of
returns-in-Exceptions c = rw c.in-Exceptions.is c.by_day.ensures

pub returns-in-Lines : goal.returns-in-Lines
unfolding stand_of parts_at key_of
returns-in-Lines c = rw c.in-Lines.is ((rw c.id.ensures at c.compare.ensures) ∙ sym (only_part _ _))
