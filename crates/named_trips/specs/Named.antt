-- The trip that a ref names: as its id, by an alias, by an id made of its parts.
use Rattle.std.specs.Prelude.{ℕ, List, Option}
use Rattle.ids.specs.First.{or_else}
use Rattle.tables.specs.declared.lent.Aliases.{Aliases}
use Rattle.tables.specs.declared.lent.IdRows.{IdRows}
use Rattle.trip_ids.specs.Trips.{trip_of}
use Rattle.alias_keys.specs.Aliases.{keys_of, first_trip}
use Rattle.made_ids.specs.Made.{built_of}

module _ (bytes words : List ℕ) (tripkeys : IdRows) (aliases : Aliases) where
  -- the trip that a base key names: as its id, by its aliases, by the id made of its parts
  unfoldable pub id_trip : List ℕ → Option ℕ
  id_trip base = or_else (trip_of bytes words tripkeys base) (or_else (first_trip bytes words tripkeys aliases (keys_of base)) (built_of bytes words tripkeys base))
