-- The stop that an update means: by its name, or by its sequence in the trip.
use Rattle.std.specs.Prelude.{ℕ, Bool, cond, List, Option, Some, None}
use Rattle.ids.specs.First.{or_else}
use Rattle.trip_ids.specs.Trips.{trip_of}
use Rattle.stop_rows.specs.Rows.{row_stop}
use Rattle.stop_rows.specs.declared.lookup.Lookup.{Lookup}
use Rattle.stop_keys.specs.Names.{named_stop}

module _ (bytes words : List ℕ) (l : Lookup) where
  -- the stop at a sequence in the trip found
  abbrev pub row_stop_of : Option ℕ → ℕ → Option ℕ
  row_stop_of (Some trip) sequence = row_stop bytes words l trip sequence
  row_stop_of None sequence = None

  -- the stop that an update means: by its name, if it has one, or else by its sequence in the trip whose id is the base key
  unfoldable pub stop_of : List ℕ → List ℕ → Bool → List ℕ → ℕ → Option ℕ
  stop_of feed base named s sequence =
      or_else (cond named (named_stop bytes words l feed s) None) (row_stop_of (trip_of bytes words l.tripkeys base) sequence)
