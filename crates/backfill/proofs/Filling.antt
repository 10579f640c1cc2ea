-- Backfill of a trip's rows: by the tests that lead to it, and how many there are. Assumes nothing.
use Rattle.std.specs.Prelude.{Option, Some, None}
use Rattle.std.proofs.Common.{◌≡◌, ℕ, suc, ◌<◌, ◌≤◌, Bool, true, false, cond, ◌||◌, eqb, ltb, List, [], ◌∷◌, length, sym, refl, ap, arith, le-ltb, lt-ltb}
use lib.Ieee.{Float}
use Rattle.std.specs.List.{list_any}
use borrow.Author.Tests.{eqb-false}
use Rattle.running_lengths.specs.Length.{length_to}
use Rattle.lengths.specs.declared.line.Point.{Point}
use Rattle.projection.specs.Projection.{projection_of}
use Rattle.row_distances.specs.Rows.{rows_of, dists_in, marks_in}
use Rattle.filled_rows.specs.Walk.{filled_at, fill_all}
use Rattle.backfill.specs.Trip.{is_missing, backfill_of, unit_of}
use Rattle.row_distances.specs.declared.row.Distance.{Distance}
use Rattle.row_distances.specs.declared.row.Unit.{Unit}
use Rattle.row_distances.proofs.Columns.{dists_back, marks_back}
use Rattle.row_distances.proofs.Written.{kept}

-- where nothing is missing, nothing is written
or_left : (a b : Bool) → (a || b) ≡ false → a ≡ false
or_left true b e = e
or_left false b e = refl

or_right : (a b : Bool) → (a || b) ≡ false → b ≡ false
or_right true b e = absurd (clash e) where
  clash : true ≡ false → ⊥
  clash p = let z : ◌≡◌ {A = ℕ} 0 1 = cc in omega arith
or_right false b e = e

pub full : (line : List Point) (unit : Unit) (fs : List (Option ℕ)) (rows : List Distance) → list_any is_missing (marks_in rows) ≡ false → fill_all line unit fs rows ≡ rows
unfolding marks_in fill_all
full line unit [] rows e = refl
full line unit (f ∷ fs) [] e = refl
full line unit (f ∷ fs) (row ∷ rows) e =
    let own : filled_at line unit f row ≡ row = own_kept f (eqb-false _ _ (or_left (eqb row.measured 0) _ e)) in
    rw (own, full line unit fs rows (or_right (eqb row.measured 0) _ e)) where
      own_kept : (f : Option ℕ) → (row.measured ≡ 0 → ⊥) → filled_at line unit f row ≡ row
      own_kept (Some v) h = kept unit (length_to line v) row h
      own_kept None h = refl

-- backfill, by the tests that lead to it
module _ (line : List Point) (stops : List (Option Point)) (ds : List Float) (ms : List ℕ) (same : length ds ≡ length ms) where
  abbrev after : List Distance
  after = backfill_of line stops (rows_of ds ms)

  as_before : after ≡ rows_of ds ms → (ds ≡ dists_in after) × (ms ≡ marks_in after)
  as_before e = rw e (sym (dists_back ds ms same), sym (marks_back ds ms same))

  few_kept : length line < 2 → after ≡ rows_of ds ms
  unfolding backfill_of
  few_kept h = rw (lt-ltb _ _ h)

  full_kept : 2 ≤ length line → list_any is_missing ms ≡ false → after ≡ rows_of ds ms
  unfolding backfill_of
  full_kept h e = rw (le-ltb _ _ h) (full line _ _ _ (rw (marks_back ds ms same) e))

  pub too_few : length line < 2 → (ds ≡ dists_in after) × (ms ≡ marks_in after)
  too_few h = as_before (few_kept h)

  pub none_missing : 2 ≤ length line → list_any is_missing ms ≡ false → (ds ≡ dists_in after) × (ms ≡ marks_in after)
  none_missing h e = as_before (full_kept h e)

  pub some_missing : 2 ≤ length line → {unit : Unit} → unit ≡ unit_of line stops (rows_of ds ms) → fill_all line unit (projection_of line stops) (rows_of ds ms) ≡ after
  unfolding backfill_of
  some_missing h e = rw (e, le-ltb _ _ h)

-- backfill changes no count
fill_count : (line : List Point) (unit : Unit) (fs : List (Option ℕ)) (rows : List Distance) → length (fill_all line unit fs rows) ≡ length rows
unfolding fill_all
fill_count line unit [] rows = refl
fill_count line unit (f ∷ fs) [] = refl
fill_count line unit (f ∷ fs) (row ∷ rows) = ap suc (fill_count line unit fs rows)

pub backfill_count : (line : List Point) (stops : List (Option Point)) (rows : List Distance) → length (backfill_of line stops rows) ≡ length rows
unfolding backfill_of
backfill_count line stops rows = either (ltb (length line) 2) where
  either : (few : Bool) → length (cond few rows (fill_all line (unit_of line stops rows) (projection_of line stops) rows)) ≡ length rows
  either true = refl
  either false = fill_count line (unit_of line stops rows) (projection_of line stops) rows
