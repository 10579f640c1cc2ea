-- Journey refs taken apart. Each part is itself a text of the ref; an empty text stands for none.
use Rattle.std.specs.Prelude.{ℕ, Bool, ◌||◌, cond, List, []}
use Rattle.texts.specs.Texts.{equal_ignoring_case}
use Rattle.text_runs.specs.Runs.{first_byte, last_byte}
use Rattle.text_folds.specs.Folds.{first_place}
use Rattle.parts.specs.Parts.{up_to, past, after_last, or_text}
use Rattle.key_parts.specs.Keys.{without_colons, without_locs}
use Rattle.refs.specs.Words.{colons, loc_word, service_journey, vehicle_journey}

-- what stands after the first "::", trimmed
unfoldable pub after_colons : List ℕ → List ℕ
after_colons s = without_locs (without_colons (past 2 (first_place colons s) s []))

-- less the last of its parts between colons, where that is "LOC" in any case
unfoldable pub without_loc_part : List ℕ → List ℕ
without_loc_part s = cond (equal_ignoring_case (after_last 58 s) loc_word) (up_to (last_byte s 58) s []) s

-- "ServiceJourney" or "VehicleJourney" in any case
unfoldable pub is_kind : List ℕ → Bool
is_kind s = equal_ignoring_case s service_journey || equal_ignoring_case s vehicle_journey

-- what stands after the kind, which ends at the place found; none where it is no kind
unfoldable pub after_kind : List ℕ → List ℕ
after_kind s = cond (is_kind (up_to (first_byte s 58) s [])) (without_loc_part (past 1 (first_byte s 58) s [])) []

-- the parts after the kind, which is the second part between colons
unfoldable pub after_parts : List ℕ → List ℕ
after_parts s = after_kind (past 1 (first_byte s 58) s [])

-- the journey id of a ref
unfoldable pub journey_id_of : List ℕ → List ℕ
journey_id_of s = or_text (after_colons s) (after_parts s)
