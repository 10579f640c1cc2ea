-- What is answered and written where only room is wanting. Assumes nothing.
use Rattle.std.specs.Prelude.{Option, Some, None}
use Prim.Native.Nat.{ℕ, ◌<◌, ◌≤◌}
use native.Mathlib.Omega.{arith}
use mathlib.Core.Path.{◌≡◌}
use mathlib.Core.List.{List, [], ◌++◌}
use borrow.Author.Tests.{lt-ltb, le-ltb}
use lib.Ieee.{Float}
use lib.ListN.{length, drop, length-take}
use Rattle.ids.specs.Pool.{cell_of}
use Rattle.ids.specs.declared.pool.Span.{Span}
use Rattle.refusals.specs.Answer.{refused, given}
use Rattle.lengths.specs.Line.{line_of}
use Rattle.lengths.proofs.Rows.{vertex_count}
use Rattle.tables.specs.declared.lent.Tables.{Tables}
use Rattle.trip_rows.specs.Rows.{shape_column}
use Rattle.trip_vertices.specs.Vertices.{trip_vertices}
use Rattle.trip_vertices.specs.Written.{found_vertices, room_answer, room_output}
use Rattle.trip_vertices.proofs.Writing.{words_count}

-- a line of a shape's columns has as many vertices as a word counts
pub line_small : (reals lon : List Float) (column points : Span) {lat : List Float} → lat ≡ shape_column reals column points → points.n < 4294967296 → length (line_of lat lon) ≤ 4294967295
unfolding shape_column
line_small reals lon column points {lat} e h = rw e (simp (vertex_count, length-take) (omega (arith, h)))

module _ (vertices out : List ℕ) where
  pub short : length out < length vertices → (refused 9 ≡ room_answer vertices out) × (out ≡ room_output vertices out)
  unfolding room_answer room_output
  short h = (rw (lt-ltb _ _ h), rw (lt-ltb _ _ h))

  pub enough : length vertices ≤ length out → (given (length vertices) ≡ room_answer vertices out) × (vertices ++ drop (length vertices) out ≡ room_output vertices out)
  unfolding room_answer room_output
  enough h = (rw (le-ltb _ _ h), rw (le-ltb _ _ h))

-- of a trip's stop times
module _ (bytes words : List ℕ) (reals : List Float) (t : Tables) (out : List ℕ) where
  vertices_count : (trip : ℕ) → length (trip_vertices bytes words reals t trip) ≡ cell_of words t.trips.count trip
  unfolding trip_vertices
  vertices_count trip = words_count _ _ _ _

  pub of_none : {found : Option ℕ} → found ≡ None → (given 0 ≡ room_answer (found_vertices bytes words reals t found) out) × (out ≡ room_output (found_vertices bytes words reals t found) out)
  of_none e = rw e (enough [] out (omega arith))

  module _ {found : Option ℕ} (trip : ℕ) (e : found ≡ Some trip) {n : ℕ} (c : n ≡ cell_of words t.trips.count trip) where
    pub of_short : length out < n → (refused 9 ≡ room_answer (found_vertices bytes words reals t found) out) × (out ≡ room_output (found_vertices bytes words reals t found) out)
    of_short h = rw e (short (trip_vertices bytes words reals t trip) out (omega (arith, vertices_count trip)))

    pub of_enough : n ≤ length out → {after : List ℕ} → after ≡ trip_vertices bytes words reals t trip ++ drop n out →
        (given n ≡ room_answer (found_vertices bytes words reals t found) out) × (after ≡ room_output (found_vertices bytes words reals t found) out)
    of_enough h w =
        let i : n ≡ length (trip_vertices bytes words reals t trip) = omega (arith, vertices_count trip) in
        rw (e, w, i) (enough (trip_vertices bytes words reals t trip) out (omega arith))
