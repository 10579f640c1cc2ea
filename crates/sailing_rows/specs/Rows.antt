-- What the row of a sailing says. Definitions only.
use Rattle.std.specs.Prelude.{ℕ, ◌+◌, Bool, cond, List, [], ℤ, pos, get_or}
use Rattle.ids.specs.Pool.{id_of}
use Rattle.key_parts.specs.Keys.{base_of}
use Rattle.tables.specs.declared.lent.Sailing.{Sailing}
use Rattle.update_rows.specs.Updates.{is_set, moment_at}

-- it is cancelled
abbrev pub is_cancelled : List ℕ → Sailing → Bool
is_cancelled bytes s = is_set bytes s.cancelled 0

-- the clock
abbrev pub clock_of : List ℤ → Sailing → ℕ
clock_of times s = moment_at times s.now 0

-- the offset of its local time
abbrev pub offset_of : List ℤ → Sailing → ℤ
offset_of times s = get_or times (s.offset.at + 0) (pos 0)

-- the route, or an empty text where there is none
unfoldable pub route_of : List ℕ → List ℕ → Sailing → List ℕ
route_of bytes words s = cond (is_set bytes s.routed 0) (id_of bytes words s.route 0) []

-- the key before its last '@'
abbrev pub base_key : List ℕ → List ℕ → Sailing → List ℕ
base_key bytes words s = base_of (id_of bytes words s.key 0)
