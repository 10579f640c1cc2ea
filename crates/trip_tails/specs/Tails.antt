-- The trip that a ref names by its tail. A trip is the number that a row of the trip ids has.
use Rattle.std.specs.Prelude.{ℕ, Bool, true, not, ◌&&◌, ◌||◌, cond, List, eqb, leb, length, Option, Some, None}
use Rattle.ids.specs.First.{first}
use Rattle.ids.specs.Pool.{cell_of, id_of}
use Rattle.texts.specs.Texts.{suffix_of, holds}
use Rattle.key_parts.specs.Keys.{tail_of}
use Rattle.tables.specs.declared.lent.IdRows.{IdRows}
use Rattle.trip_ids.specs.Trips.{trip_at, unless}

-- the id ends with the tail or, where that has 8 bytes or more, contains it
unfoldable pub has_tail : List ℕ → List ℕ → Bool
has_tail tail s = suffix_of tail s || (leb 8 (length tail) && holds tail s)

-- the trip is another than the one found, if any is
abbrev pub is_other : Option ℕ → ℕ → Bool
is_other (Some found) trip = not (eqb trip found)
is_other None trip = true

module _ (bytes words : List ℕ) (tripkeys : IdRows) where
  -- row k's id has the tail, and its trip is another than the one found, if any is
  unfoldable pub tail_row : List ℕ → Option ℕ → ℕ → Bool
  tail_row tail found k = has_tail tail (id_of bytes words tripkeys.id k) && is_other found (cell_of words tripkeys.row k)

  -- the first such row
  abbrev pub tail_first : List ℕ → Option ℕ → Option ℕ
  tail_first tail found = first (tail_row tail found) tripkeys.id.starts.n

  -- the trip of the first row whose id has the tail, unless such a row names another
  unfoldable pub only_trip : List ℕ → Option ℕ
  only_trip tail = let trip = trip_at words tripkeys.row (tail_first tail None) in unless (tail_first tail trip) trip

  -- the only trip whose ids have the tail of the ref, if it has one
  unfoldable pub tail_trip : List ℕ → Option ℕ
  tail_trip base = cond (eqb (length (tail_of base)) 0) None (only_trip (tail_of base))
