-- The way that a line is sailed. Definitions only.
use Rattle.std.specs.Prelude.{Float}
use Rattle.std.specs.Float.{binary64}
use Rattle.std.specs.Float.Ieee.{sub}
use Rattle.floats.specs.Number.{one}
use Rattle.ways.specs.declared.way.Way.{Way}
use Rattle.ways.specs.declared.way.Way.TheVariants.{With, Against}

-- a fraction in sailing direction from one in the order of the vertices, and back
abbrev pub turned_of : Way → Float → Float
turned_of With f = f
turned_of Against f = sub binary64 one f
