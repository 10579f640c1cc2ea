-- What the row of a journey says.
use Rattle.std.specs.Prelude.{ℕ, Bool, not, cond, List, [], eqb, ℤ, pos, ◌+ℤ◌, get_or}
use Rattle.ids.specs.Pool.{id_of}
use Rattle.ids.specs.declared.pool.Span.{Span}
use Rattle.columns.specs.Rows.{bit_of}
use Rattle.tables.specs.declared.lent.Journey.{Journey}

-- the first time of a column
abbrev pub time_of : List ℤ → Span → ℤ
time_of times s = get_or times s.at (pos 0)

-- the route, or an empty text where there is none
unfoldable pub route_of : List ℕ → List ℕ → Journey → List ℕ
route_of bytes words j = cond (eqb (bit_of bytes j.routed 0) 0) [] (id_of bytes words j.route 0)

-- there is a first departure
unfoldable pub departs_of : List ℕ → Journey → Bool
departs_of bytes j = not (eqb (bit_of bytes j.departs 0) 0)

-- the first departure in local time, or 0 where there is none
unfoldable pub local_of : List ℕ → List ℤ → Journey → ℤ
local_of bytes times j = cond (departs_of bytes j) (time_of times j.departure +ℤ time_of times j.offset) (pos 0)
