-- The trip that a ref names by an alias.
use Rattle.std.specs.Prelude.{ℕ, cond, List, [], ◌∷◌, ◌++◌, Option, Some, None}
use Rattle.ids.specs.First.{or_else}
use Rattle.ids.specs.Pool.{id_of}
use Rattle.ids.specs.Rows.{row_of, GoodIds}
use Rattle.text_folds.specs.Folds.{prefix_of}
use Rattle.key_parts.specs.Keys.{raw_of, without_loc}
use Rattle.refs.specs.Refs.{journey_id_of}
use Rattle.uuids.specs.Uuids.{is_uuid}
use Rattle.key_parts.specs.Words.{loc, local_mark}
use Rattle.tables.specs.declared.lent.Aliases.{Aliases}
use Rattle.tables.specs.declared.lent.IdRows.{IdRows}
use Rattle.trip_ids.specs.Trips.{trip_of}
use Rattle.trip_ids.specs.Words.{trip_mark}
use Rattle.alias_keys.specs.Words.{magenta_mark, sncf_mark, stif_mark, local_trip_mark}

-- the keys of a journey id that is a UUID
unfoldable pub uuid_keys : List ℕ → List (List ℕ)
uuid_keys j = cond (is_uuid j) ((trip_mark ++ j) ∷ (magenta_mark ++ (j ++ loc)) ∷ (sncf_mark ++ (j ++ loc)) ∷ []) []

-- the keys of a journey id that begins with "local-"
unfoldable pub local_keys : List ℕ → List (List ℕ)
local_keys j = cond (prefix_of local_mark j) ((stif_mark ++ (j ++ loc)) ∷ (local_trip_mark ++ j) ∷ []) []

-- the keys of a ref less its feed
abbrev pub raw_keys : List ℕ → List (List ℕ)
raw_keys raw = let j = journey_id_of raw in raw ∷ without_loc raw ∷ j ∷ (uuid_keys j ++ local_keys j)

-- the keys by which a base key is looked up in the aliases. `siri_ref_lookup_keys` drops those that are empty, as the journey id of a ref that has none,
-- and those that repeat another: no alias is empty, and a repeat is answered as before, so that neither changes the trip
unfoldable pub keys_of : List ℕ → List (List ℕ)
keys_of base = base ∷ raw_keys (raw_of base)

module _ (bytes words : List ℕ) where
  -- trip ids and aliases ascend, and none is over 96 bytes
  pub record Known (tripkeys : IdRows) (aliases : Aliases) : Type 0 where
    pub trip_ids : GoodIds (id_of bytes words tripkeys.id) tripkeys.id.starts.n
    pub alias_ids : GoodIds (id_of bytes words aliases.id) aliases.id.starts.n

  module _ (tripkeys : IdRows) (aliases : Aliases) where
    -- the trip whose id the row found has
    abbrev pub named_at : Option ℕ → Option ℕ
    named_at (Some k) = trip_of bytes words tripkeys (id_of bytes words aliases.trip k)
    named_at None = None

    -- the trip that an alias stands for
    unfoldable pub alias_trip : List ℕ → Option ℕ
    alias_trip key = named_at (row_of (id_of bytes words aliases.id) aliases.id.starts.n key)

    -- the trip of the first key that stands for one
    unfoldable pub first_trip : List (List ℕ) → Option ℕ
    first_trip [] = None
    first_trip (key ∷ keys) = or_else (alias_trip key) (first_trip keys)
