-- Backfill keeps each distance that is there, bit for bit, and writes only rows of the trip. Assumes nothing.
--     keeps-present       after any trips of the tables, one after the other, a row that has a distance is as it was
--     writes-only-trip    after a trip, a row that is none of its rows is as it was
use Prim.Native.Nat.{ℕ, zero, suc, ◌+◌, ◌-◌, ◌<◌, ◌≤◌}
use native.Mathlib.Omega.{arith}
use mathlib.Core.Path.{◌≡◌, refl, sym, ap, ◌∙◌}
use mathlib.Core.Bool.{Bool, true, false, cond, not}
use mathlib.Core.List.{List, ◌++◌}
use lib.Dec.{T, ltb, ltb→lt, nltb→le}
use lib.Ieee.{Float}
use lib.ListN.{length, length-take, length-drop, take, drop, get_or, get_or-append}
use lib.Seq.{get_or-append-add, get_or-drop, get_or-take, length-take-le}
use borrow.Author.Tests.{le-ltb, ltb-false}
use Rattle.ids.specs.Pool.{cell_of}
use Rattle.tables.specs.declared.lent.Tables.{Tables}
use Rattle.trip_rows.specs.Rows.{row_position, trip_line}
use Rattle.trip_vertices.specs.Vertices.{positions_from}
use Rattle.backfill.specs.Trip.{backfill_of}
use Rattle.row_distances.specs.declared.row.Distance.{Distance}
use Rattle.backfill.proofs.Keeps.{none, Present, trip_keeps}
use Rattle.backfill.proofs.Filling.{backfill_count}
use Rattle.filled_trips.specs.Tables.{after_trip, after_trips}

-- ---- among all rows: a part of them in its place
module _ {A : Type 0} (z : A) (rows part : List A) (first n : ℕ) (room : first + n ≤ length rows) (long : length part ≡ n) where
  abbrev joined : List A
  joined = take first rows ++ (part ++ drop (first + n) rows)

  front : length (take first rows) ≡ first
  front = length-take-le first rows (omega arith)

  before_it : (k : ℕ) → k < first → get_or joined k z ≡ get_or rows k z
  before_it k h = get_or-append (take first rows) (part ++ drop (first + n) rows) z k (omega (arith, front)) ∙ get_or-take first rows k z h

  inside : (j : ℕ) → j < n → get_or joined (first + j) z ≡ get_or part j z
  inside j h =
      ap (λ (m : ℕ). get_or joined (m + j) z) (sym front) ∙ get_or-append-add (take first rows) (part ++ drop (first + n) rows) j z
      ∙ get_or-append part (drop (first + n) rows) z j (omega (arith, long))

  after_it : (j : ℕ) → get_or joined (first + (n + j)) z ≡ get_or rows (first + n + j) z
  after_it j =
      ap (λ (m : ℕ). get_or joined (m + (n + j)) z) (sym front) ∙ get_or-append-add (take first rows) (part ++ drop (first + n) rows) (n + j) z
      ∙ ap (λ (m : ℕ). get_or (part ++ drop (first + n) rows) (m + j) z) (sym long) ∙ get_or-append-add part (drop (first + n) rows) j z ∙ get_or-drop (first + n) rows j z

  -- what is not in the part
  pub outside : (k : ℕ) → (k < first → ⊥) → (k < first + n → ⊥) → get_or joined k z ≡ get_or rows k z
  outside k l h =
      let i : first + (n + (k - (first + n))) ≡ k = omega (arith, h) in
      let j : first + n + (k - (first + n)) ≡ k = omega (arith, h) in
      ap (λ (m : ℕ). get_or joined m z) (sym i) ∙ after_it (k - (first + n)) ∙ ap (λ (m : ℕ). get_or rows m z) j

-- ---- the tables
module _ (bytes words : List ℕ) (reals : List Float) (t : Tables) where
  module _ (trip : ℕ) (rows : List Distance) where
    abbrev pub first_row : ℕ
    first_row = cell_of words t.trips.first trip

    abbrev pub row_count : ℕ
    row_count = cell_of words t.trips.count trip

    abbrev own : List Distance
    own = backfill_of (trip_line bytes words reals t.trips t.shapes t.points trip) (positions_from (row_position bytes words reals t.stops t.times) first_row row_count) (take row_count (drop first_row rows))

    own_count : first_row + row_count ≤ length rows → length own ≡ row_count
    own_count h = backfill_count _ _ (take row_count (drop first_row rows)) ∙ simp (length-take, length-drop) (omega arith)

    -- a row that is none of the trip's
    pub writes_only_trip : (k : ℕ) → (first_row ≤ k → k < first_row + row_count → ⊥) → get_or (after_trip bytes words reals t trip rows) k none ≡ get_or rows k none
    unfolding after_trip
    writes_only_trip k out = go (ltb (length rows) (first_row + row_count)) (ltb-false (length rows) (first_row + row_count)) where
      either : first_row + row_count ≤ length rows → (low : Bool) → (T low → k < first_row) → (T (not low) → first_row ≤ k) → get_or (take first_row rows ++ (own ++ drop (first_row + row_count) rows)) k none ≡ get_or rows k none
      either room true l h = before_it none rows own first_row row_count room (own_count room) k (l tt)
      either room false l h = outside none rows own first_row row_count room (own_count room) k (λ low. omega (arith, h tt, low)) (out (h tt))

      go : (few : Bool) → (few ≡ false → first_row + row_count ≤ length rows) → get_or (cond few rows (take first_row rows ++ (own ++ drop (first_row + row_count) rows))) k none ≡ get_or rows k none
      go true room = refl
      go false room = either (room refl) (ltb k first_row) (ltb→lt k first_row) (nltb→le k first_row)

    -- a row of the trip that has a distance
    own_keeps : first_row + row_count ≤ length rows → (k : ℕ) → first_row ≤ k → k < first_row + row_count → Present (get_or rows k none) → get_or (after_trip bytes words reals t trip rows) k none ≡ get_or rows k none
    unfolding after_trip
    own_keeps room k low high h =
        let j = k - first_row in
        let i : first_row + j ≡ k = omega arith in
        let here : get_or (take row_count (drop first_row rows)) j none ≡ get_or rows k none = get_or-take row_count (drop first_row rows) j none (omega arith) ∙ get_or-drop first_row rows j none ∙ ap (λ (m : ℕ). get_or rows m none) i in
        rw (le-ltb (length rows) (first_row + row_count) room)
        (ap (λ (m : ℕ). get_or (take first_row rows ++ (own ++ drop (first_row + row_count) rows)) m none) (sym i)
        ∙ inside none rows own first_row row_count room (own_count room) j (omega arith)
        ∙ trip_keeps _ _ (take row_count (drop first_row rows)) j (λ z. h (ap (λ (row : Distance). row.measured) (sym here) ∙ z)) ∙ here)

    few_rows : (k : ℕ) → ltb (length rows) (first_row + row_count) ≡ true → get_or (after_trip bytes words reals t trip rows) k none ≡ get_or rows k none
    unfolding after_trip
    few_rows k e = rw e

    trip_present : (k : ℕ) → Present (get_or rows k none) → get_or (after_trip bytes words reals t trip rows) k none ≡ get_or rows k none
    trip_present k h = pick (ltb (length rows) (first_row + row_count)) (few_rows k) (λ e. go (ltb-false (length rows) (first_row + row_count) e) (ltb k first_row) (ltb→lt k first_row) (nltb→le k first_row)) where
      within : first_row + row_count ≤ length rows → first_row ≤ k → (high : Bool) → (T high → k < first_row + row_count) → (T (not high) → first_row + row_count ≤ k) → get_or (after_trip bytes words reals t trip rows) k none ≡ get_or rows k none
      within room low true a b = own_keeps room k low (a tt) h
      within room low false a b = writes_only_trip k (λ _ high. omega (arith, b tt, high))

      go : first_row + row_count ≤ length rows → (under : Bool) → (T under → k < first_row) → (T (not under) → first_row ≤ k) → get_or (after_trip bytes words reals t trip rows) k none ≡ get_or rows k none
      go room true a b = writes_only_trip k (λ low _. omega (arith, a tt, low))
      go room false a b = within room (b tt) (ltb k (first_row + row_count)) (ltb→lt k (first_row + row_count)) (nltb→le k (first_row + row_count))

      pick : (few : Bool) → (few ≡ true → get_or (after_trip bytes words reals t trip rows) k none ≡ get_or rows k none) → (few ≡ false → get_or (after_trip bytes words reals t trip rows) k none ≡ get_or rows k none) → get_or (after_trip bytes words reals t trip rows) k none ≡ get_or rows k none
      pick true a b = a refl
      pick false a b = b refl

  -- after any trips in table order, a row that has a distance is as it was
  pub keeps_present : (trip n : ℕ) (rows : List Distance) (k : ℕ) → Present (get_or rows k none) → get_or (after_trips bytes words reals t trip n rows) k none ≡ get_or rows k none
  unfolding after_trips
  keeps_present trip zero rows k h = refl
  keeps_present trip (suc n) rows k h =
      let e = trip_present trip rows k h in
      keeps_present (suc trip) n (after_trip bytes words reals t trip rows) k (λ z. h (ap (λ (row : Distance). row.measured) (sym e) ∙ z)) ∙ e
