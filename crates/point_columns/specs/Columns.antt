-- The columns of a sheet, as the Rattle code holds them. Definitions only.
use Rattle.std.specs.Prelude.{ℕ, ◌≡◌, List, Float, Option}
use Rattle.lengths.specs.declared.line.Point.{Point}
use Rattle.point_columns.specs.declared.point.Sheet as declared
use Rattle.point_columns.specs.Sheet.{Sheet, sheet}

-- they are still the ones that were lent
abbrev pub SameColumns : declared.Sheet → declared.Sheet → Type 0
SameColumns before after = (after.lat.ghost_name ≡ before.lat.ghost_name) × (after.lon.ghost_name ≡ before.lon.ghost_name)

-- a drawing as it goes, in these columns
abbrev pub drawing : declared.Sheet → Option Point → ℕ → Sheet
drawing columns last at = sheet columns.lat.now columns.lon.now last at
