-- Zero and one as floats. Definitions only.
use Rattle.std.specs.Prelude.{false, pos, Float}
use Rattle.std.specs.Float.{fin}

abbrev pub nought : Float
nought = fin false 0 (pos 0)

abbrev pub one : Float
one = fin false 1 (pos 0)
