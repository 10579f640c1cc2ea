-- The operations: where only room is wanting, and with the refusals before it. Assumes nothing.
use Prim.Native.Nat.{ℕ, ◌<◌, ◌≤◌, min}
use native.Mathlib.Omega.{arith}
use mathlib.Core.Path.{◌≡◌, refl, sym, ◌∙◌}
use mathlib.Core.List.{List, ◌++◌}
use borrow.Author.Tests.{lt-ltb, le-ltb}
use lib.Ieee.{Float}
use lib.ListN.{length, drop}
use Rattle.refusals.specs.declared.refusal.Refusal.{Refusal}
use Rattle.refusals.specs.Refusal.{refusal_number}
use Rattle.refusals.specs.Answer.{Answer, refused, given}
use Rattle.answers.proofs.Told.{numbered, denied, refused_first, kept}
use Rattle.tables.specs.Pools.{Pools, part_of}
use Rattle.tables.specs.Bounds.{chart_bounds}
use Rattle.verdicts.specs.Refuse.{refusal_of}
use Rattle.tables.specs.declared.lent.Tables.{Tables}
use Rattle.geometry_checks.specs.Operations.{geometry_causes}
use Rattle.row_distances.specs.Rows.{rows_of, dists_in, marks_in}
use Rattle.filled_trips.specs.Tables.{after_trips}
use Rattle.trip_backfill.specs.Answers.{lent_rows, short_of, room_answer, room_dists, room_marks, fill_refusal, filled_of, filled_dists, filled_marks}
use Rattle.row_distances.specs.declared.row.Distance.{Distance}
use Rattle.row_distances.proofs.Columns.{dists_count, marks_count}
use Rattle.filled_trips.proofs.Among.{trips_count}

-- where only room is wanting: so many rows, and as many afterwards
module _ (rows after : List Distance) (same : length after ≡ length rows) (dist : List Float) (measured : List ℕ) where
  is_short : (list : List Distance) → length list ≡ length rows → min (length dist) (length measured) < length rows → short_of 0 list dist measured ≡ 9
  unfolding short_of
  is_short list e h = rw (lt-ltb (min (length dist) (length measured)) (length list) (omega (arith, e, h)))

  has_room : (list : List Distance) → length list ≡ length rows → length rows ≤ length dist → length rows ≤ length measured → short_of 0 list dist measured ≡ 0
  unfolding short_of
  has_room list e d m = rw (le-ltb (min (length dist) (length measured)) (length list) (omega (arith, e, d, m)))

  pub short : min (length dist) (length measured) < length rows →
      (refused 9 ≡ room_answer rows dist measured) × ((dist ≡ room_dists after dist measured) × (measured ≡ room_marks after dist measured))
  unfolding room_answer room_dists room_marks
  short h = (rw (is_short rows refl h), (rw (is_short after same h), rw (is_short after same h)))

  pub enough : length rows ≤ length dist → length rows ≤ length measured → {n : ℕ} → n ≡ length rows → {ds : List Float} → ds ≡ dists_in after → {ms : List ℕ} → ms ≡ marks_in after →
      (given n ≡ room_answer rows dist measured) × ((ds ++ drop n dist ≡ room_dists after dist measured) × (ms ++ drop n measured ≡ room_marks after dist measured))
  unfolding room_answer room_dists room_marks
  enough h l {n} e d m =
      let i : length (dists_in after) ≡ n = dists_count after ∙ same ∙ sym e in
      let j : length (marks_in after) ≡ n = marks_count after ∙ same ∙ sym e in
      (rw (has_room rows refl h l, e), (rw (has_room after same h l, i, d), rw (has_room after same h l, j, m)))

-- the operation: refused, or the rows of the tables
module _ (p : Pools) (t : Tables) (trip n : ℕ) (dist : List Float) (measured : List ℕ) where
  abbrev Told : Answer ℕ → List Float → List ℕ → Type 0
  Told r ds ms = (r ≡ filled_of p t dist measured) × ((ds ≡ filled_dists p t trip n dist measured) × (ms ≡ filled_marks p t trip n dist measured))

  abbrev after : List Distance
  after = after_trips p.bytes p.words p.reals t trip n (lent_rows p t)

  refused_so : {k : ℕ} → k ≡ refusal_of p (geometry_causes chart_bounds t) → (k ≡ 0 → ⊥) → fill_refusal p t dist measured ≡ k
  unfolding fill_refusal short_of
  refused_so {k} e h = rw (← e) (refused_first k (length (lent_rows p t)) (min (length dist) (length measured)) h)

  pub op_refused : (r : Refusal) → refusal_number r ≡ refusal_of p (geometry_causes chart_bounds t) → Told (refused (refusal_number r)) dist measured
  unfolding filled_of filled_dists filled_marks
  op_refused r e =
      let k = refusal_number r in
      let h = numbered r in
      let q = refused_so e h in
      (rw q (denied k (length (lent_rows p t)) h), (rw q (kept k (dists_in after) dist h), rw q (kept k (marks_in after) measured h)))

  same_refusal : refusal_of p (geometry_causes chart_bounds t) ≡ 0 → (list : List Distance) → length list ≡ length (lent_rows p t) → fill_refusal p t dist measured ≡ short_of 0 list dist measured
  unfolding fill_refusal short_of
  same_refusal e list l = rw (e, l)

  pub op_given : refusal_of p (geometry_causes chart_bounds t) ≡ 0 → {r : Answer ℕ} {ds : List Float} {ms : List ℕ} →
      (r ≡ room_answer (lent_rows p t) dist measured) × ((ds ≡ room_dists after dist measured) × (ms ≡ room_marks after dist measured)) → Told r ds ms
  unfolding filled_of filled_dists filled_marks room_answer room_dists room_marks
  op_given e told =
      let count : length after ≡ length (lent_rows p t) = trips_count p.bytes p.words p.reals t trip n (lent_rows p t) in
      (rw (same_refusal e (lent_rows p t) refl) told.0, (rw (same_refusal e after count) told.1.0, rw (same_refusal e after count) told.1.1))

  pub lent_rows_lem : {column : List Float} → column ≡ part_of p.dists t.times.dist → {flags : List ℕ} → flags ≡ part_of p.bytes t.times.measured → rows_of column flags ≡ lent_rows p t
  unfolding lent_rows
  lent_rows_lem c f = rw (c, f)
