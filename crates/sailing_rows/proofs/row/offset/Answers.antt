-- `sailing_rows::row::offset` meets its contract.
use mathlib.Core.Path.{◌∙◌}
use mir.Facts.{to_z-of_z}
use mir.Syntax.{w64}
use Rattle.sailing_rows.proofs.row.offset.Goals as goal

pub returns : goal.returns
returns c = to_z-of_z {w = w64} (record { sfits = c.time.type_inv }) ∙ c.time.ensures
