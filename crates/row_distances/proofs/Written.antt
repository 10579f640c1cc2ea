-- A row that has a distance is not written. Assumes nothing.
use mathlib.Core.Path.{◌≡◌}
use borrow.Author.Tests.{ne_eqb}
use lib.Ieee.{Float}
use Rattle.row_distances.specs.Rows.{filled_by}
use Rattle.row_distances.specs.declared.row.Distance.{Distance}
use Rattle.row_distances.specs.declared.row.Unit.{Unit}

-- a row that has a distance keeps it
pub kept : (unit : Unit) (m : Float) (row : Distance) → (row.measured ≡ 0 → ⊥) → filled_by unit m row ≡ row
unfolding filled_by
kept unit m row h = rw (ne_eqb _ _ h)
