-- A line of two points. Definitions only.
use Rattle.line_parts.specs.declared.part.Part.{Part}

-- the whole of a line of two points
abbrev pub two : Part
two = record { first = 0; last = 1 }
