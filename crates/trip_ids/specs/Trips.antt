-- The trip whose id a text is. A trip is the number that a row of the trip ids has.
use Rattle.std.specs.Prelude.{ℕ, List, Option, Some, None}
use Rattle.ids.specs.Pool.{cell_of, id_of}
use Rattle.ids.specs.Rows.{row_of}
use Rattle.ids.specs.declared.pool.Span.{Span}
use Rattle.tables.specs.declared.lent.IdRows.{IdRows}

-- the trip, where nothing is found
abbrev pub unless : Option ℕ → Option ℕ → Option ℕ
unless (Some k) trip = None
unless None trip = trip

-- the trip of the row found
abbrev pub trip_at : List ℕ → Span → Option ℕ → Option ℕ
trip_at words row (Some k) = Some (cell_of words row k)
trip_at words row None = None

module _ (bytes words : List ℕ) (tripkeys : IdRows) where
  -- the trip whose id is the key
  unfoldable pub trip_of : List ℕ → Option ℕ
  trip_of key = trip_at words tripkeys.row (row_of (id_of bytes words tripkeys.id) tripkeys.id.starts.n key)
