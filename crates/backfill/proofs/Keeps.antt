-- Backfill of a trip keeps each distance that is there, bit for bit. Assumes nothing.
use Rattle.std.specs.Prelude.{Option, Some, None}
use Rattle.std.proofs.Common.{◌≡◌, ℕ, zero, suc, Bool, true, false, cond, ltb, List, [], ◌∷◌, length, get_or, refl}
use lib.Ieee.{nan}
use Rattle.running_lengths.specs.Length.{length_to}
use Rattle.lengths.specs.declared.line.Point.{Point}
use Rattle.projection.specs.Projection.{projection_of}
use Rattle.filled_rows.specs.Walk.{filled_at, fill_all}
use Rattle.backfill.specs.Trip.{unit_of, backfill_of}
use Rattle.row_distances.specs.declared.row.Distance.{Distance}
use Rattle.row_distances.specs.declared.row.Unit.{Unit}
use Rattle.row_distances.proofs.Written.{kept}

-- what a row that is not there reads as: it has no distance
abbrev pub none : Distance
none = record { dist = nan; measured = 0 }

-- a row has a distance
abbrev pub Present : Distance → Type 0
Present row = row.measured ≡ 0 → ⊥

-- ---- the rows of a trip
at_kept : (line : List Point) (unit : Unit) (f : Option ℕ) (row : Distance) → Present row → filled_at line unit f row ≡ row
at_kept line unit (Some v) row h = kept unit (length_to line v) row h
at_kept line unit None row h = refl

fill_keeps : (line : List Point) (unit : Unit) (fs : List (Option ℕ)) (rows : List Distance) (k : ℕ) → Present (get_or rows k none) → get_or (fill_all line unit fs rows) k none ≡ get_or rows k none
unfolding fill_all
fill_keeps line unit [] rows k h = refl
fill_keeps line unit (f ∷ fs) [] k h = refl
fill_keeps line unit (f ∷ fs) (row ∷ rows) zero h = at_kept line unit f row h
fill_keeps line unit (f ∷ fs) (row ∷ rows) (suc k) h = fill_keeps line unit fs rows k h

pub trip_keeps : (line : List Point) (stops : List (Option Point)) (rows : List Distance) (k : ℕ) → Present (get_or rows k none) → get_or (backfill_of line stops rows) k none ≡ get_or rows k none
unfolding backfill_of
trip_keeps line stops rows k h = go (ltb (length line) 2) where
  go : (few : Bool) → get_or (cond few rows (fill_all line (unit_of line stops rows) (projection_of line stops) rows)) k none ≡ get_or rows k none
  go true = refl
  go false = fill_keeps line (unit_of line stops rows) (projection_of line stops) rows k h
