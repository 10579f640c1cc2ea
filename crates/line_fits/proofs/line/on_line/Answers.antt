use mathlib.Core.Path.{◌∙◌, ap, sym}
use Rattle.row_lookup.specs.Rows.{is_same, row_is}
use Rattle.line_fits.proofs.line.on_line.Goals as goal

pub returns-in-Less : goal.returns-in-Less
unfolding row_is
returns-in-Less c = sym (ap is_same (sym c.stands.ensures ∙ c.in-Less.is))

pub returns-in-Equal : goal.returns-in-Equal
unfolding row_is
returns-in-Equal c = sym (ap is_same (sym c.stands.ensures ∙ c.in-Equal.is))

pub returns-in-Greater : goal.returns-in-Greater
unfolding row_is
returns-in-Greater c = sym (ap is_same (sym c.stands.ensures ∙ c.in-Greater.is))
