use borrow.Author.Rules.{rules}
use mathlib.Core.Path.{◌∙◌, ap}
use mir.Facts.{to_z-of_z}
use mir.Syntax.{w64}
use Rattle.update_rows.specs.Updates.{moment_of, moment_at}
use Rattle.update_rows.proofs.update.moment_at.Goals as goal

pub returns : goal.returns
unfolding moment_at
returns c = c.moment_of.ensures ∙ ap moment_of (to_z-of_z {w = w64} (record { sfits = c.time.type_inv }) ∙ c.time.ensures)
