-- The rows of a trip, filled one by one. Assumes nothing.
use Rattle.std.specs.Prelude.{Option, Some, None}
use Prim.Native.Nat.{ℕ, suc, ◌+◌, ◌-◌, ◌<◌, ◌≤◌}
use native.Mathlib.Omega.{arith}
use mathlib.Core.Path.{◌≡◌, refl, sym, ◌∙◌}
use mathlib.Core.List.{List, [], ◌∷◌, ◌++◌, append_assoc}
use lib.Ieee.{Float}
use lib.ListN.{length, length-set, take, drop, get_or, set, take-append-drop}
use lib.Seq.{take-suc-set, drop-set-lt}
use Rattle.floats.specs.Number.{nought}
use Rattle.running_lengths.specs.Length.{length_to}
use Rattle.lengths.specs.declared.line.Point.{Point}
use Rattle.running_lengths.proofs.Running.{first_length}
use Rattle.projection.specs.Projection.{projection_from, projection_of, step_of}
use Rattle.near_vertex.proofs.Range.{first_most}
use Rattle.trip_vertices.specs.Vertices.{positions_from}
use Rattle.row_distances.specs.Rows.{rows_of, dists_in, marks_in}
use Rattle.filled_rows.specs.Walk.{walked_of, fill_all}
use Rattle.row_distances.specs.declared.row.Distance.{Distance}
use Rattle.row_distances.specs.declared.row.Unit.{Unit}
use Rattle.filled_rows.specs.declared.walk.Walked.{Walked}
use Rattle.row_distances.proofs.Columns.{rows_count, dists_back, marks_back, rows_set, rows_from}

-- the cursor stays on the line, with the length to there
pub walk_on : (line : List Point) (unit : Unit) (at : ℕ) (stop : Option Point) (row : Distance) → at < length line → (walked_of line unit at stop row).at < length line
unfolding walked_of step_of
walk_on line unit at (Some p) row h = omega (arith, first_most line at p)
walk_on line unit at None row h = h

pub walk_sum : (line : List Point) (unit : Unit) (at : ℕ) (stop : Option Point) (row : Distance) → (walked_of line unit at stop row).sum ≡ length_to line (walked_of line unit at stop row).at
unfolding walked_of
walk_sum line unit at stop row = refl

module _ (line : List Point) (unit : Unit) (position : ℕ → Option Point) (first n : ℕ) (ds₀ : List Float) (ms₀ : List ℕ) where
  -- the rows afterwards
  abbrev all : List Distance
  all = fill_all line unit (projection_of line (positions_from position first n)) (rows_of ds₀ ms₀)

  -- those from row k on, with the cursor at `at`
  abbrev pub left : ℕ → ℕ → List Distance → List Distance
  left at k rows = fill_all line unit (projection_from line (record { at = at }) (positions_from position (first + k) (n - k))) (drop k rows)

  -- the loop: where it stands after k rows
  pub record Filled (ds : List Float) (ms : List ℕ) (at : ℕ) (sum : Float) (k : ℕ) : Type 0 where
    pub so_far : k ≤ n
    pub dists : length ds ≡ n
    pub marks : length ms ≡ n
    pub here : at < length line
    pub walked : sum ≡ length_to line at
    pub rest : all ≡ take k (rows_of ds ms) ++ left at k (rows_of ds ms)

  pub starts : 0 < length line → n ≡ length ds₀ → n ≡ length ms₀ → {sum : Float} → sum ≡ nought → Filled ds₀ ms₀ 0 sum 0
  starts h d m e =
      let z : first + 0 ≡ first = omega arith in
      let i : n - 0 ≡ n = omega arith in
      record { so_far = omega arith; dists = sym d; marks = sym m; here = h; walked = e ∙ sym (first_length line); rest = rw (z, i) }

  module _ {ds : List Float} {ms : List ℕ} {at : ℕ} {sum : Float} {k : ℕ} (f : Filled ds ms at sum k) where
    step_left : k < n → (x : Float) → (w : Walked) → w ≡ walked_of line unit at (position (first + k)) (record { dist = get_or ds k x; measured = get_or ms k 0 }) →
        left at k (rows_of ds ms) ≡ w.row ∷ left w.at (k + 1) (set (rows_of ds ms) k w.row)
    unfolding positions_from projection_from fill_all walked_of
    step_left h x w e =
        let i : n - k ≡ suc (n - (k + 1)) = omega arith in
        let j : suc (first + k) ≡ first + (k + 1) = omega arith in
        let l : suc k ≡ k + 1 = omega arith in
        let d : drop (k + 1) (set (rows_of ds ms) k w.row) ≡ drop (k + 1) (rows_of ds ms) = drop-set-lt (k + 1) (rows_of ds ms) k w.row (omega arith) in
        rw (d, e, i, rows_from ds ms k x (omega (arith, f.dists)) (omega (arith, f.marks)), j, l)

    pub goes_on : k < n → (x : Float) → {stop : Option Point} → stop ≡ position (first + k) → {w : Walked} → w ≡ walked_of line unit at stop (record { dist = get_or ds k x; measured = get_or ms k 0 }) →
        {ds' : List Float} → ds' ≡ set ds k w.row.dist → {ms' : List ℕ} → ms' ≡ set ms k w.row.measured → Filled ds' ms' w.at w.sum (k + 1)
    goes_on h x {stop} s {w} e d m =
        let q : w ≡ walked_of line unit at (position (first + k)) (record { dist = get_or ds k x; measured = get_or ms k 0 }) = e ∙ rw s in
        let room : k < length (rows_of ds ms) = omega (arith, rows_count ds ms (f.dists ∙ sym f.marks), f.dists) in
        let l : suc k ≡ k + 1 = omega arith in
        let t : take (k + 1) (set (rows_of ds ms) k w.row) ≡ take k (rows_of ds ms) ++ (w.row ∷ []) = rw (← l) (take-suc-set (rows_of ds ms) k w.row room) in
        record {
          so_far = omega arith;
          dists = rw d (simp length-set f.dists);
          marks = rw m (simp length-set f.marks);
          here = rw e (walk_on line unit at stop _ f.here);
          walked = rw e (walk_sum line unit at stop _);
          rest = f.rest ∙ rw (d, m, rows_set, t, append_assoc, step_left h x w q);
        }

    ended : n ≤ k → all ≡ rows_of ds ms
    unfolding positions_from projection_from fill_all
    ended h = let i : n - k ≡ 0 = omega arith in f.rest ∙ rw (i, take-append-drop)

    pub ends : n ≤ k → (ds ≡ dists_in all) × (ms ≡ marks_in all)
    ends h = let e : length ds ≡ length ms = f.dists ∙ sym f.marks in (rw (ended h) (sym (dists_back ds ms e)), rw (ended h) (sym (marks_back ds ms e)))
