-- Backfill of a trip's rows: the line of its shape, where its stops are, and its rows. Definitions only.
use Rattle.std.specs.Prelude.{ℕ, Bool, cond, not, List, length, ◌==◌, nat_lt, Option}
use Rattle.std.specs.List.{list_any}
use Rattle.lengths.specs.declared.line.Point.{Point}
use Rattle.projection.specs.Projection.{projection_of}
use Rattle.calibration.specs.Samples.{samples_affine}
use Rattle.row_distances.specs.Rows.{marks_in}
use Rattle.backfill.specs.Samples.{feed_unit, samples_in}
use Rattle.filled_rows.specs.Walk.{fill_all}
use Rattle.row_distances.specs.declared.row.Distance.{Distance}
use Rattle.row_distances.specs.declared.row.Unit.{Unit}
use Rattle.row_distances.specs.declared.row.Unit.TheVariants.{Metres}

-- a row has no distance, or one
abbrev pub is_missing : ℕ → Bool
is_missing m = m == 0

abbrev pub is_measured : ℕ → Bool
is_measured m = not (m == 0)

-- the unit that missing distances are written in: metres where all are missing, and else the feed's own, as the samples tell it
unfoldable pub unit_of : List Point → List (Option Point) → List Distance → Unit
unit_of line stops rows = cond (list_any is_measured (marks_in rows)) (feed_unit (samples_affine line (samples_in stops rows))) Metres

-- a trip's rows after backfill: on a line of fewer than two points they are as they were
unfoldable pub backfill_of : List Point → List (Option Point) → List Distance → List Distance
backfill_of line stops rows = cond (nat_lt (length line) 2) rows (fill_all line (unit_of line stops rows) (projection_of line stops) rows)
