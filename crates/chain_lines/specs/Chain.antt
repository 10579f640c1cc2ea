-- A leg's chain. Definitions only.
use Rattle.std.specs.Prelude.{ℕ, ◌+◌, List, Float, Option}
use Rattle.tables.specs.declared.lent.StopTimes.{StopTimes}
use Rattle.tables.specs.declared.lent.Stops.{Stops}
use Rattle.lengths.specs.declared.line.Point.{Point}
use Rattle.chain_rows.specs.declared.chain.Chain.{Chain}
use Rattle.chain_lines.specs.Thin.{chain_from}
use Rattle.chain_lines.specs.Stops.{stop_between, points_below}

-- where the stop of the i-th row of a chain is, if its sequence is from lo to hi and the stop has a position
abbrev pub stop_of : List ℕ → List ℕ → List Float → Stops → StopTimes → Chain → ℕ → Option Point
stop_of bytes words reals s c chain i = stop_between bytes words reals s c chain.lo chain.hi (chain.first + i)

-- the chain's points, where its rows' stops are these: those with a position, in the order of the rows, thinned, turned, and ended
unfoldable pub line_from : (ℕ → Option Point) → Chain → List Point
line_from stop chain = chain_from chain.reversed chain.from chain.to (points_below stop chain.count)

-- the chain's points
abbrev pub chain_line : List ℕ → List ℕ → List Float → Stops → StopTimes → Chain → List Point
chain_line bytes words reals s c chain = line_from (stop_of bytes words reals s c chain) chain
