-- `days::date::read_date` meets its contract: a date is read as its day, and what is none is refused.
use Rattle.std.specs.Prelude.{Some}
use borrow.Author.Rules.{rules}
use mathlib.Core.Path.{ap, ◌∙◌}
use mir.Syntax.{w64}
use mir.Facts.{to_z-of_z}
use Rattle.days.specs.Read.{read_date_of}
use Rattle.days.proofs.date.read_date.Goals as goal

pub returns-then-is_date : goal.returns-then-is_date
unfolding read_date_of
returns-then-is_date c =
    rw (← c.is_date.ensures, c.if-is_date.true)
    (ap Some (to_z-of_z {w = w64} (record { sfits = c.day_of.type_inv }) ∙ c.day_of.ensures))

pub returns : goal.returns
unfolding read_date_of
returns c = rw (← c.is_date.ensures, c.if-is_date.false)
