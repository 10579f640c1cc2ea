-- The parts of a leg: the rows of its two stops, the part of a line between two vertices, and whether two points are apart. Definitions only.
use Rattle.std.specs.Prelude.{ℕ, ◌-◌, min, max, Bool, cond, ◌||◌, List, ltb, Option, Some, None}
use Rattle.std.specs.Float.{binary64}
use Rattle.std.specs.Float.Ieee.{sub, lt}
use Rattle.ieee.specs.Number.{abs_of}
use Rattle.lengths.specs.declared.line.Point.{Point}
use Rattle.line_parts.specs.Part.{whole_of}
use Rattle.line_parts.specs.declared.part.Part.{Part}
use Rattle.unit_scales.specs.Scale.{decimal}
use Rattle.leg_parts.specs.declared.ends.Ends.{Ends}

-- the offsets asked of, brought down to the last of so many rows, and put in order
unfoldable pub ends_of : ℕ → ℕ → ℕ → Ends
ends_of count from to = let a = min from (count - 1) in let b = min to (count - 1) in record { board = min a b; alight = max a b }

-- the vertices from the one to the other; the whole line where one is not there, and where they are the same
abbrev pub part_between : List Point → Option ℕ → Option ℕ → Part
part_between line (Some i) (Some j) = cond (ltb i j) (record { first = i; last = j }) (whole_of line)
part_between line (Some i) None = whole_of line
part_between line None other = whole_of line

-- two points differ by more than 1e-9 in latitude or in longitude; NaN does not
unfoldable pub apart : Point → Point → Bool
apart q p =
    lt (decimal 1 1000000000) (abs_of (sub binary64 q.lat p.lat)) || lt (decimal 1 1000000000) (abs_of (sub binary64 q.lon p.lon))
