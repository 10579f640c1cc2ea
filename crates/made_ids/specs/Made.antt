-- The trip whose id is made of parts of a ref.
use Rattle.std.specs.Prelude.{ℕ, cond, List, ◌∷◌, ◌++◌, Option, None}
use Rattle.text_runs.specs.Runs.{first_byte}
use Rattle.parts.specs.Parts.{up_to}
use Rattle.refs.specs.Refs.{journey_id_of}
use Rattle.uuids.specs.Uuids.{is_uuid}
use Rattle.tables.specs.declared.lent.IdRows.{IdRows}
use Rattle.trip_ids.specs.Trips.{trip_of}
use Rattle.trip_ids.specs.Words.{trip_mark}

-- the text before the first ':', or all of it
unfoldable pub feed_of : List ℕ → List ℕ
feed_of base = up_to (first_byte base 58) base base

module _ (bytes words : List ℕ) (tripkeys : IdRows) where
  -- the trip whose id is made of the ref's feed and its journey id, where that is a UUID
  unfoldable pub built_of : List ℕ → Option ℕ
  built_of base = let j = journey_id_of base in cond (is_uuid j) (trip_of bytes words tripkeys (feed_of base ++ (58 ∷ trip_mark ++ j))) None
