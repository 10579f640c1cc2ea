-- Parts of a line, and lengths along them, in metres. Definitions only.
use Rattle.std.specs.Prelude.{ℕ, zero, suc, ◌+◌, ◌-◌, List, Float, length, get_or}
use Rattle.std.specs.Float.{binary64}
use Rattle.std.specs.Float.Ieee.{add}
use Rattle.floats.specs.Number.{nought}
use Rattle.lengths.specs.Line.{metres_of, nowhere}
use Rattle.lengths.specs.declared.line.Point.{Point}
use Rattle.line_parts.specs.declared.part.Part.{Part}

-- vertex k
abbrev pub at : List Point → ℕ → Point
at line k = get_or line k nowhere

-- how many stretches a part has
abbrev pub stretches : Part → ℕ
stretches part = part.last - part.first

-- the whole of a line
abbrev pub whole_of : List Point → Part
whole_of line = record { first = 0; last = length line - 1 }

-- the length of the stretch from vertex k to the next
unfoldable pub stretch_length : List Point → ℕ → Float
stretch_length line k = metres_of (at line k) (at line (suc k))

-- the length over n stretches from vertex a on, summed from the left
unfoldable pub length_from : List Point → ℕ → ℕ → Float
length_from line a zero = nought
length_from line a (suc n) = add binary64 (length_from line a n) (stretch_length line (a + n))

-- the length of a part
unfoldable pub part_length : List Point → Part → Float
part_length line part = length_from line part.first (stretches part)
