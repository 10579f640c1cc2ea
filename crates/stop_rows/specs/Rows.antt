-- The stop at a sequence in a trip. A stop without a position is as none.
use Rattle.std.specs.Prelude.{ℕ, ◌+◌, Bool, not, ◌&&◌, cond, List, eqb, Option, Some, None}
use Rattle.ids.specs.First.{first}
use Rattle.ids.specs.Pool.{cell_of}
use Rattle.columns.specs.Rows.{bit_of}
use Rattle.tables.specs.declared.lent.Stops.{Stops}
use Rattle.stop_rows.specs.declared.lookup.Lookup.{Lookup}

-- the stop has a position
unfoldable pub is_positioned : List ℕ → Stops → ℕ → Bool
is_positioned bytes stops stop = not (eqb (bit_of bytes stops.positioned stop) 0)

-- the stop, if it has a position
abbrev pub if_positioned : List ℕ → Stops → ℕ → Option ℕ
if_positioned bytes stops stop = cond (is_positioned bytes stops stop) (Some stop) None

module _ (bytes words : List ℕ) (l : Lookup) where
  -- row k of the stop times has the sequence, and its stop a position
  unfoldable pub is_row : ℕ → ℕ → Bool
  is_row sequence k = eqb (cell_of words l.times.sequence k) sequence && is_positioned bytes l.stops (cell_of words l.times.stop k)

  -- row k after `from`
  abbrev pub row_from : ℕ → ℕ → ℕ → Bool
  row_from sequence from k = is_row sequence (from + k)

  -- the stop of the row that was found after `from`
  abbrev pub stop_from : ℕ → Option ℕ → Option ℕ
  stop_from from (Some k) = Some (cell_of words l.times.stop (from + k))
  stop_from from None = None

  -- the stop of a trip's first such row
  unfoldable pub row_stop : ℕ → ℕ → Option ℕ
  row_stop trip sequence =
      let from = cell_of words l.trips.first trip in stop_from from (first (row_from sequence from) (cell_of words l.trips.count trip))
