-- The vertices of a trip's stops, as the words that are written.
use Rattle.std.specs.Prelude.{ℕ, zero, suc, List, [], ◌∷◌, map, Float, Option, Some, None}
use Rattle.ids.specs.Pool.{cell_of}
use Rattle.lengths.specs.declared.line.Point.{Point}
use Rattle.tables.specs.declared.lent.Tables.{Tables}
use Rattle.projection.specs.Projection.{passed_of, projection_of}
use Rattle.projection.specs.declared.cursor.Passed.{Passed}
use Rattle.trip_rows.specs.Rows.{row_position, trip_line}
use Rattle.trip_vertices.specs.declared.mark.Marked.{Marked}

-- a vertex, or 4,294,967,295 for none
abbrev pub word_of : Option ℕ → ℕ
word_of (Some k) = k
word_of None = 4294967295

abbrev marked : Passed → Marked
marked p = record { at = p.cursor.at; word = word_of p.vertex }

-- a stop's, and where the cursor goes
unfoldable pub marked_of : List Point → ℕ → Option Point → Marked
marked_of line at stop = marked (passed_of line (record { at = at }) stop)

-- where the stops of n rows are, from a row on
unfoldable pub positions_from : (ℕ → Option Point) → ℕ → ℕ → List (Option Point)
positions_from position row zero = []
positions_from position row (suc n) = position row ∷ positions_from position (suc row) n

-- their vertices
unfoldable pub vertex_words : List Point → (ℕ → Option Point) → ℕ → ℕ → List ℕ
vertex_words line position first n = map word_of (projection_of line (positions_from position first n))

-- those of a trip's stop times, on the line of its shape
unfoldable pub trip_vertices : List ℕ → List ℕ → List Float → Tables → ℕ → List ℕ
trip_vertices bytes words reals t trip =
    vertex_words (trip_line bytes words reals t.trips t.shapes t.points trip) (row_position bytes words reals t.stops t.times)
    (cell_of words t.trips.first trip) (cell_of words t.trips.count trip)
