-- A stop and its row: what is walked to, and what is written. Assumes nothing.
use Rattle.std.specs.Prelude.{Option, Some, None}
use Prim.Native.Nat.{ℕ, ◌<◌, ◌≤◌}
use native.Mathlib.Omega.{arith}
use mathlib.Core.Path.{◌≡◌}
use mathlib.Core.List.{List}
use lib.Ieee.{Float}
use lib.ListN.{length}
use Rattle.running_lengths.specs.Length.{length_to}
use Rattle.lengths.specs.declared.line.Point.{Point}
use Rattle.near_vertex.specs.Forward.{start_of}
use Rattle.projection.specs.Projection.{step_of}
use Rattle.projection.specs.declared.cursor.Step.{Step}
use Rattle.near_vertex.proofs.Range.{first_from, first_most}
use Rattle.row_distances.specs.Rows.{filled_by}
use Rattle.filled_rows.specs.Walk.{walked_of}
use Rattle.row_distances.specs.declared.row.Distance.{Distance}
use Rattle.row_distances.specs.declared.row.Unit.{Unit}
use Rattle.filled_rows.specs.declared.walk.Walked.{Walked}

-- a stop's vertex is on the line, and not before the cursor
module _ (line : List Point) (at : ℕ) (stop : Point) (h : at < length line) {s : Step} (e : s ≡ step_of line (record { at = at }) stop) where
  starts : start_of line at ≡ at
  unfolding start_of
  starts = omega arith

  pub not_before : at ≤ s.vertex
  unfolding step_of
  not_before = rw e (omega (arith, starts, first_from line at stop))

  pub on_it : s.vertex < length line
  unfolding step_of
  on_it = rw e (omega (arith, first_most line at stop))

-- a stop and its row
module _ (line : List Point) (unit : Unit) (at : ℕ) {stop : Option Point} (row : Distance) where
  pub unplaced : stop ≡ None → {sum : Float} → sum ≡ length_to line at → ◌≡◌ {A = Walked} (record { at = at; sum = sum; row = row }) (walked_of line unit at stop row)
  unfolding walked_of
  unplaced e q = rw (e, q)

  pub placed : {point : Point} → stop ≡ Some point → {s : Step} → s ≡ step_of line (record { at = at }) point → {m : Float} → m ≡ length_to line s.vertex →
      {after : Distance} → after ≡ filled_by unit m row → ◌≡◌ {A = Walked} (record { at = s.vertex; sum = m; row = after }) (walked_of line unit at stop row)
  unfolding walked_of step_of
  placed e q i f = rw (f, i, e, q)
