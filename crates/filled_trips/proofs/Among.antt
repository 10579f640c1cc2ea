-- The trips of the tables, one after the other. Assumes nothing.
use Rattle.std.specs.Prelude.{Option}
use Prim.Native.Nat.{ℕ, zero, suc, ◌+◌, ◌-◌, ◌<◌, ◌≤◌}
use native.Mathlib.Omega.{arith}
use mathlib.Core.Path.{◌≡◌, refl, sym, ap, ◌∙◌}
use mathlib.Core.Bool.{Bool, true, false, cond}
use mathlib.Core.List.{List, ◌++◌, map}
use lib.Dec.{ltb}
use lib.Seq.{drop-drop, length-take-le, take_all}
use lib.Ieee.{Float}
use lib.ListN.{length, length-append, length-take, length-drop, take, drop}
use borrow.Author.Tests.{lt-ltb, le-ltb, ltb-false}
use borrow.Rule.Slice.PartMut.{put_mid}
use Rattle.ids.specs.Pool.{cell_of}
use Rattle.lengths.specs.declared.line.Point.{Point}
use Rattle.tables.specs.declared.lent.Tables.{Tables}
use Rattle.trip_rows.specs.Rows.{row_position, trip_line}
use Rattle.trip_vertices.specs.Vertices.{positions_from}
use Rattle.row_distances.specs.Rows.{rows_of, dist_of, mark_of, dists_in, marks_in}
use Rattle.backfill.specs.Trip.{backfill_of}
use Rattle.filled_trips.specs.Tables.{after_trip, after_trips}
use Rattle.row_distances.specs.declared.row.Distance.{Distance}
use Rattle.row_distances.proofs.Columns.{rows_count, rows_least, dists_back, marks_back, dists_count, marks_count, map-take, map-drop, map_join, rows_take, rows_drop, rows_back}
use Rattle.backfill.proofs.Filling.{backfill_count}

-- a part of columns that is put back, and the rows
module _ (first n : ℕ) (ds : List Float) (ms : List ℕ) (same : length ds ≡ length ms) (room : first + n ≤ length ds) where
  spread : first + n - first ≡ n
  spread = omega arith

  pub part_rows : rows_of (take (first + n - first) (drop first ds)) (take (first + n - first) (drop first ms)) ≡ take n (drop first (rows_of ds ms))
  part_rows = rw (spread, rows_take, rows_drop)

  pub part_long : {A : Type 0} (xs : List A) → length xs ≡ length ds → n ≡ length (take (first + n - first) (drop first xs))
  part_long xs e = simp (length-take, length-drop) (omega arith)

  abbrev among : List Distance → List Distance
  among part = take first (rows_of ds ms) ++ (part ++ drop (first + n) (rows_of ds ms))

  after_dists : (part : List Distance) → put_mid first (first + n - first) ds (dists_in part) ≡ dists_in (among part)
  unfolding dists_in
  after_dists part =
      let own : map dist_of (rows_of ds ms) ≡ ds = dists_back ds ms same in
      rw (spread, drop-drop, map_join, map_join, map-take, map-drop, own)

  after_marks : (part : List Distance) → put_mid first (first + n - first) ms (marks_in part) ≡ marks_in (among part)
  unfolding marks_in
  after_marks part =
      let own : map mark_of (rows_of ds ms) ≡ ms = marks_back ds ms same in
      rw (spread, drop-drop, map_join, map_join, map-take, map-drop, own)

-- one trip among all rows
module _ (bytes words : List ℕ) (reals : List Float) (t : Tables) (trip : ℕ) where
  abbrev first_row : ℕ
  first_row = cell_of words t.trips.first trip

  abbrev row_count : ℕ
  row_count = cell_of words t.trips.count trip

  abbrev trip_line_of : List Point
  trip_line_of = trip_line bytes words reals t.trips t.shapes t.points trip

  abbrev trip_stops : List (Option Point)
  trip_stops = positions_from (row_position bytes words reals t.stops t.times) first_row row_count

  pub trip_count : (rows : List Distance) → length (after_trip bytes words reals t trip rows) ≡ length rows
  unfolding after_trip
  trip_count rows = either (ltb (length rows) (first_row + row_count)) (ltb-false (length rows) (first_row + row_count)) where
    either : (few : Bool) → (few ≡ false → first_row + row_count ≤ length rows) →
        length (cond few rows (take first_row rows ++ (backfill_of trip_line_of trip_stops (take row_count (drop first_row rows)) ++ drop (first_row + row_count) rows))) ≡ length rows
    either true h = refl
    either false h = simp (length-append, backfill_count, length-take, length-drop) (omega (arith, h refl))

  module _ (ds : List Float) (ms : List ℕ) (same : length ds ≡ length ms) where
    abbrev after : List Distance
    after = after_trip bytes words reals t trip (rows_of ds ms)

    all_count : length (rows_of ds ms) ≡ length ds
    all_count = rows_count ds ms same

    too_short : length ds < first_row + row_count → after ≡ rows_of ds ms
    unfolding after_trip
    too_short h = rw (lt-ltb (length (rows_of ds ms)) (first_row + row_count) (omega (arith, all_count)))

    pub trip_short : {first n : ℕ} → first ≡ first_row → n ≡ row_count → length ds < first + n → (ds ≡ dists_in after) × (ms ≡ marks_in after)
    trip_short f c h =
        let e = too_short (omega (arith, h, f, c)) in (rw e (sym (dists_back ds ms same)), rw e (sym (marks_back ds ms same)))

    filled : first_row + row_count ≤ length ds →
        after ≡ take first_row (rows_of ds ms) ++ (backfill_of trip_line_of trip_stops (take row_count (drop first_row (rows_of ds ms))) ++ drop (first_row + row_count) (rows_of ds ms))
    unfolding after_trip
    filled h = rw (le-ltb (length (rows_of ds ms)) (first_row + row_count) (omega (arith, all_count)))

    -- by what was written into the part
    pub trip_filled : {first n : ℕ} → first ≡ first_row → n ≡ row_count → first + n ≤ length ds → {line : List Point} → line ≡ trip_line_of → {stops : List (Option Point)} →
        stops ≡ positions_from (row_position bytes words reals t.stops t.times) first n → {ds' : List Float} {ms' : List ℕ} →
        ds' ≡ dists_in (backfill_of line stops (rows_of (take (first + n - first) (drop first ds)) (take (first + n - first) (drop first ms)))) →
        ms' ≡ marks_in (backfill_of line stops (rows_of (take (first + n - first) (drop first ds)) (take (first + n - first) (drop first ms)))) →
        (put_mid first (first + n - first) ds ds' ≡ dists_in after) × (put_mid first (first + n - first) ms ms' ≡ marks_in after)
    trip_filled f c h l s d m =
        rw (d, m, l, s, f, c) (let r : first_row + row_count ≤ length ds = omega (arith, h, f, c) in
        rw (part_rows first_row row_count ds ms same r, filled r)
        (after_dists first_row row_count ds ms same r _, after_marks first_row row_count ds ms same r _))

-- the loop over the trips: where it stands before trip k
module _ (bytes words : List ℕ) (reals : List Float) (t : Tables) (a e : ℕ) (ds₀ : List Float) (ms₀ : List ℕ) where
  pub record Each (ds : List Float) (ms : List ℕ) (k : ℕ) : Type 0 where
    pub same : length ds ≡ length ms
    pub dists : length ds ≡ length ds₀
    pub marks : length ms ≡ length ms₀
    pub rest : after_trips bytes words reals t a (e - a) (rows_of ds₀ ms₀) ≡ after_trips bytes words reals t k (e - k) (rows_of ds ms)

  pub each_starts : length ds₀ ≡ length ms₀ → Each ds₀ ms₀ a
  each_starts h = record { same = h; dists = refl; marks = refl; rest = refl }

  module _ {ds : List Float} {ms : List ℕ} {k : ℕ} (f : Each ds ms k) where
    next_rest : k < e → {ds' : List Float} → ds' ≡ dists_in (after_trip bytes words reals t k (rows_of ds ms)) → {ms' : List ℕ} → ms' ≡ marks_in (after_trip bytes words reals t k (rows_of ds ms)) →
        after_trips bytes words reals t k (e - k) (rows_of ds ms) ≡ after_trips bytes words reals t (k + 1) (e - (k + 1)) (rows_of ds' ms')
    unfolding after_trips
    next_rest h d m =
        let i : e - k ≡ suc (e - (k + 1)) = omega arith in
        let j : suc k ≡ k + 1 = omega arith in
        rw (i, d, m, rows_back, ← j)

    pub each_on : k < e → {ds' : List Float} → ds' ≡ dists_in (after_trip bytes words reals t k (rows_of ds ms)) → {ms' : List ℕ} → ms' ≡ marks_in (after_trip bytes words reals t k (rows_of ds ms)) → Each ds' ms' (k + 1)
    each_on h {ds'} d {ms'} m =
        let after = after_trip bytes words reals t k (rows_of ds ms) in
        let n : length ds' ≡ length ds = ap length d ∙ dists_count after ∙ trip_count bytes words reals t k (rows_of ds ms) ∙ rows_count ds ms f.same in
        let l : length ms' ≡ length ds = ap length m ∙ marks_count after ∙ trip_count bytes words reals t k (rows_of ds ms) ∙ rows_count ds ms f.same in
        record { same = n ∙ sym l; dists = n ∙ f.dists; marks = l ∙ f.same ∙ f.marks; rest = f.rest ∙ next_rest h d m }

    over : e ≤ k → after_trips bytes words reals t a (e - a) (rows_of ds₀ ms₀) ≡ rows_of ds ms
    unfolding after_trips
    over h = let i : e - k ≡ 0 = omega arith in f.rest ∙ rw i

    pub each_ends : e ≤ k → (ds ≡ dists_in (after_trips bytes words reals t a (e - a) (rows_of ds₀ ms₀))) × (ms ≡ marks_in (after_trips bytes words reals t a (e - a) (rows_of ds₀ ms₀)))
    each_ends h = (rw (over h) (sym (dists_back ds ms f.same)), rw (over h) (sym (marks_back ds ms f.same)))

module _ (bytes words : List ℕ) (reals : List Float) (t : Tables) where
  pub trips_count : (trip n : ℕ) (rows : List Distance) → length (after_trips bytes words reals t trip n rows) ≡ length rows
  unfolding after_trips
  trips_count trip zero rows = refl
  trips_count trip (suc n) rows = trips_count (suc trip) n (after_trip bytes words reals t trip rows) ∙ trip_count bytes words reals t trip rows

-- columns laid out in outputs of as many rows
module _ (column : List Float) (flags : List ℕ) where
  pub fits_dists : {n : ℕ} → n ≡ length (rows_of column flags) → n ≤ length column
  fits_dists e = omega (arith, e, rows_least column flags)

  pub fits_marks : {n : ℕ} → n ≡ length (rows_of column flags) → n ≤ length flags
  fits_marks e = omega (arith, e, rows_least column flags)

  pub laid : {n : ℕ} → n ≡ length (rows_of column flags) → {m : ℕ} → m ≡ length (rows_of column flags) → {ds : List Float} → ds ≡ take n column → {ms : List ℕ} → ms ≡ take m flags →
      rows_of ds ms ≡ rows_of column flags
  laid {n} e f d m = rw (d, m, f, e, rows_take) (take_all (length (rows_of column flags)) (rows_of column flags) (omega arith))

  pub laid_same : {n : ℕ} → n ≡ length (rows_of column flags) → {m : ℕ} → m ≡ length (rows_of column flags) → {ds : List Float} → ds ≡ take n column → {ms : List ℕ} → ms ≡ take m flags →
      length ds ≡ length ms
  laid_same {n} e {m} f d l =
      ap length d ∙ length-take-le n column (fits_dists e) ∙ e ∙ sym f ∙ sym (length-take-le m flags (fits_marks f)) ∙ sym (ap length l)
