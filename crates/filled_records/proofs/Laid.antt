-- Records laid out in columns, and what the core makes of them. Assumes nothing.
use Rattle.std.specs.Prelude.{Option}
use Rattle.lengths.specs.declared.line.Point.{Point}
use Prim.Native.Nat.{ℕ, zero, suc, ◌+◌, ◌<◌, ◌≤◌}
use native.Mathlib.Omega.{arith}
use mathlib.Core.Path.{◌≡◌, refl, ap, ◌∙◌}
use mathlib.Core.List.{List, [], ◌∷◌, ◌++◌, map}
use lib.Ieee.{Float, nan}
use lib.ListN.{length, length-append, length-drop, length-map, take, drop, get_or, get_or-append}
use lib.Seq.{take_at, drop_at}
use Rattle.lengths.specs.Line.{line_of}
use Rattle.tables.specs.Pools.{part_of}
use Rattle.trip_rows.specs.Rows.{stop_position, row_position}
use Rattle.trip_vertices.specs.Vertices.{positions_from}
use Rattle.row_distances.specs.Rows.{rows_of, dists_in, marks_in}
use Rattle.backfill.specs.Trip.{backfill_of}
use Rattle.row_distances.specs.declared.row.Distance.{Distance}
use Rattle.row_distances.proofs.Columns.{dists_count, marks_count}
use Rattle.backfill.proofs.Filling.{backfill_count}
use Rattle.records.specs.Rows.{each, map_to}
use Rattle.stop_record.specs.Record.{none}
use Rattle.records.specs.Records.{fill_row, flag_of}
use Rattle.stop_record.specs.declared.StopTime.{StopTime}
use Rattle.filled_records.specs.Records.{lent_line, record_stops, record_rows, record_filled, own_calls, core_rows, core_d, core_k, laid_a, col_d, col_k, laid_d, laid_k, laid_r}
use Rattle.record_refusals.specs.declared.LentRecords.{LentRecords}

abbrev stop_of : StopTime → ℕ
stop_of s = s.stop

abbrev dist_of : StopTime → Float
dist_of s = s.dist

abbrev mark_of : StopTime → ℕ
mark_of s = flag_of s.measured

-- a column whose first rows are a field of the records
module _ {X : Type 0} (f : StopTime → X) where
  abbrev field : List StopTime → ℕ → X → X
  field rs j x = f (get_or rs j none)

  column : (rs : List StopTime) (xs : List X) → length rs ≤ length xs → map_to (field rs) (length rs) xs ≡ map f rs ++ drop (length rs) xs
  column [] xs h = refl
  column (s ∷ rs) [] h = absurd (omega arith)
  column (s ∷ rs) (x ∷ xs) h = ap (λ (l : List X). f s ∷ l) (column rs xs (omega arith))

  first_rows : (rs : List StopTime) (xs : List X) → length rs ≤ length xs → take (length rs) (map_to (field rs) (length rs) xs) ≡ map f rs
  first_rows rs xs h = rw (column rs xs h) (take_at (map f rs) (drop (length rs) xs) (length rs) (length-map rs f))

  other_rows : (rs : List StopTime) (xs : List X) → length rs ≤ length xs → drop (length rs) (map_to (field rs) (length rs) xs) ≡ drop (length rs) xs
  other_rows rs xs h = rw (column rs xs h) (drop_at (map f rs) (drop (length rs) xs) (length rs) (length-map rs f))

-- the rows of the columns are the records'
own_rows : (rs : List StopTime) → rows_of (map dist_of rs) (map mark_of rs) ≡ record_rows rs
unfolding rows_of record_rows
own_rows [] = refl
own_rows (s ∷ rs) = ap (λ (l : List Distance). record { dist = s.dist; measured = flag_of s.measured } ∷ l) (own_rows rs)

-- the positions of rows, from the first on
positions_same : (p q : ℕ → Option Point) → ((j : ℕ) → p j ≡ q j) → (k n : ℕ) → positions_from p k n ≡ positions_from q k n
unfolding positions_from
positions_same p q h k zero = refl
positions_same p q h k (suc n) = rw (h k, positions_same p q h (suc k) n)

positions_shift : (p : ℕ → Option Point) (k n : ℕ) → positions_from p (suc k) n ≡ positions_from (λ (j : ℕ). p (suc j)) k n
unfolding positions_from
positions_shift p k zero = refl
positions_shift p k (suc n) = ap (λ (l : List (Option Point)). p (suc k) ∷ l) (positions_shift p (suc k) n)

positions_of : (place : ℕ → Option Point) (rs : List StopTime) (others : List ℕ) → positions_from (λ (j : ℕ). place (get_or (map stop_of rs ++ others) j 0)) 0 (length rs) ≡ map (λ (s : StopTime). place s.stop) rs
unfolding positions_from
positions_of place [] others = refl
positions_of place (s ∷ rs) others =
    ap (λ (l : List (Option Point)). place s.stop ∷ l) (positions_shift (λ (j : ℕ). place (get_or (map stop_of (s ∷ rs) ++ others) j 0)) 0 (length rs) ∙ positions_of place rs others)

-- a list changed row by row in two ways that agree on its rows
each_same : {X : Type 0} {g h : ℕ → X → X} (xs : List X) → ((j : ℕ) (x : X) → j < length xs → g j x ≡ h j x) → each g xs ≡ each h xs
each_same [] e = refl
each_same (x ∷ xs) e = rw (e 0 x (omega arith), each_same xs (λ j y l. e (suc j) y (omega arith)))

module _ (rs : List StopTime) (bytes : List ℕ) (reals : List Float) (l : LentRecords) (ats : List ℕ) (ds : List Float) (ks : List ℕ)
    (fits : length rs ≤ length ats) (room : length rs ≤ length ds) (flags : length rs ≤ length ks) where
  abbrev n : ℕ
  n = length rs

  abbrev filled : List Distance
  filled = record_filled bytes reals l rs

  pub stops_laid : laid_a rs bytes reals l ats ds ks ≡ map stop_of rs ++ drop n ats
  stops_laid = column stop_of rs ats fits

  own_stops : positions_from (row_position bytes (laid_a rs bytes reals l ats ds ks) reals l.stops own_calls) 0 n ≡ record_stops bytes reals l.stops rs
  unfolding record_stops row_position
  own_stops = rw stops_laid
      (positions_same (λ (j : ℕ). stop_position bytes reals l.stops (get_or (map stop_of rs ++ drop n ats) (0 + j) 0)) (λ (j : ℕ). stop_position bytes reals l.stops (get_or (map stop_of rs ++ drop n ats) j 0))
      (λ j. let z : 0 + j ≡ j = omega arith in ap (λ (k : ℕ). stop_position bytes reals l.stops (get_or (map stop_of rs ++ drop n ats) k 0)) z) 0 n
      ∙ positions_of (stop_position bytes reals l.stops) rs (drop n ats))

  rows_filled : core_rows bytes (laid_a rs bytes reals l ats ds ks) reals l n (col_d rs bytes reals l ats ds ks) (col_k rs bytes reals l ats ds ks) ≡ filled
  unfolding core_rows record_filled
  rows_filled = rw (own_stops, first_rows dist_of rs ds room, first_rows mark_of rs ks flags, own_rows)

  pub dists_laid : laid_d rs bytes reals l ats ds ks ≡ dists_in filled ++ drop n ds
  unfolding core_d
  dists_laid = rw (rows_filled, other_rows dist_of rs ds room)

  pub marks_laid : laid_k rs bytes reals l ats ds ks ≡ marks_in filled ++ drop n ks
  unfolding core_k
  marks_laid = rw (rows_filled, other_rows mark_of rs ks flags)

  filled_count : length filled ≡ n
  unfolding record_filled record_rows
  filled_count = backfill_count (lent_line reals l) (record_stops bytes reals l.stops rs) (record_rows rs) ∙ length-map rs (λ (s : StopTime). record { dist = s.dist; measured = flag_of s.measured })

  pub dists_long : length (laid_d rs bytes reals l ats ds ks) ≡ length ds
  dists_long = rw dists_laid (omega (arith, length-append (dists_in filled) (drop n ds), length-drop n ds, dists_count filled, filled_count))

  pub marks_long : length (laid_k rs bytes reals l ats ds ks) ≡ length ks
  marks_long = rw marks_laid (omega (arith, length-append (marks_in filled) (drop n ks), length-drop n ks, marks_count filled, filled_count))

  pub records_laid : laid_r rs bytes reals l ats ds ks ≡ each (fill_row (dists_in filled) (marks_in filled)) rs
  records_laid = rw (dists_laid, marks_laid) (each_same rs (λ j s h. filled_same j s h)) where
    filled_same : (j : ℕ) (s : StopTime) → j < length rs → fill_row (dists_in filled ++ drop n ds) (marks_in filled ++ drop n ks) j s ≡ fill_row (dists_in filled) (marks_in filled) j s
    filled_same j s h =
        rw (
          get_or-append (dists_in filled) (drop n ds) nan j (omega (arith, dists_count filled, filled_count)),
          get_or-append (marks_in filled) (drop n ks) 0 j (omega (arith, marks_count filled, filled_count)),
        )

-- the core's answer, by the columns of the line
pub core_is : (bytes ats : List ℕ) (reals : List Float) (l : LentRecords) (n : ℕ) (ds : List Float) (ks : List ℕ) → {lat : List Float} → lat ≡ part_of reals l.line.lat → {lon : List Float} → lon ≡ part_of reals l.line.lon →
    {us : List Float} → us ≡ dists_in (backfill_of (line_of lat lon) (positions_from (row_position bytes ats reals l.stops own_calls) 0 n) (rows_of (take n ds) (take n ks))) →
    {vs : List ℕ} → vs ≡ marks_in (backfill_of (line_of lat lon) (positions_from (row_position bytes ats reals l.stops own_calls) 0 n) (rows_of (take n ds) (take n ks))) →
    (us ++ drop n ds ≡ core_d bytes ats reals l n ds ks) × (vs ++ drop n ks ≡ core_k bytes ats reals l n ds ks)
unfolding core_d core_k core_rows lent_line
core_is bytes ats reals l n ds ks e f u v = (rw (u, e, f), rw (v, e, f))
