-- The rows that tell the unit of a trip's distances. Definitions only.
use Rattle.unit_scales.specs.declared.metres.Affine.{Affine}
use Rattle.std.specs.Prelude.{cond, List, [], ◌∷◌, ◌++◌, ◌==◌, Option, Some, None}
use mathlib.Core.List.{foldl}
use Rattle.lengths.specs.declared.line.Point.{Point}
use Rattle.calibration.specs.Affine.{shape_dist_affine}
use Rattle.calibration.specs.declared.affine.Sample.{Sample}
use Rattle.row_distances.specs.declared.row.Distance.{Distance}
use Rattle.row_distances.specs.declared.row.Unit.{Unit}
use Rattle.row_distances.specs.declared.row.Unit.TheVariants.{Feed, Unknown}
use Rattle.backfill.specs.declared.ends.Ends.{Ends}
use Rattle.backfill.specs.declared.ends.Ends.TheVariants.{Nothing, One, Both}

-- the sample of a row: a row with a distance, whose stop has a position
abbrev pub sample_of : Option Point → Distance → List Sample
sample_of (Some point) row = cond (row.measured == 0) [] (record { at = point; dist = row.dist } ∷ [])
sample_of None row = []

-- those of all rows, in their order
unfoldable pub samples_in : List (Option Point) → List Distance → List Sample
samples_in [] rows = []
samples_in (stop ∷ stops) [] = []
samples_in (stop ∷ stops) (row ∷ rows) = sample_of stop row ++ samples_in stops rows

-- the unit, where two samples tell one
abbrev pub feed_unit : Option Affine → Unit
feed_unit (Some k) = Feed k
feed_unit None = Unknown

-- the first and the last of samples, with one more
abbrev pub added_end : Ends → Sample → Ends
added_end Nothing s = One s
added_end (One first) s = Both first s
added_end (Both first last) s = Both first s

abbrev pub ends_of : List Sample → Ends
ends_of samples = foldl added_end Nothing samples

-- with one more row
unfoldable pub next_ends : Ends → Option Point → Distance → Ends
next_ends ends stop row = foldl added_end ends (sample_of stop row)

-- the unit that they tell
abbrev pub ends_unit : List Point → Ends → Unit
ends_unit line Nothing = Unknown
ends_unit line (One s) = Unknown
ends_unit line (Both first last) = feed_unit (shape_dist_affine line first last)
