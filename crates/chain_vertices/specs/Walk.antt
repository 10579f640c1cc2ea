-- A chain whose rows are marked, as its points, and where a pass over it stands. Definitions only.
use Rattle.std.specs.Prelude.{ℕ, List, Option}
use Rattle.lengths.specs.declared.line.Point.{Point}
use Rattle.chain_lines.specs.Chain.{stop_of, line_from}
use Rattle.chain_vertices.specs.declared.vertices.Here.{Here}
use Rattle.chain_vertices.specs.declared.vertices.MarkedChain.{MarkedChain}
use Rattle.chain_vertices.specs.Vertices.{Stands}

-- where the stop of its i-th row is
abbrev pub stop_in : MarkedChain → ℕ → Option Point
stop_in c = stop_of c.lent.bytes.now c.lent.words.now c.lent.reals.now c.stops c.calls c.chain

-- its points
abbrev pub points_of : MarkedChain → List Point
points_of c = line_from (stop_in c) c.chain

-- a pass stands at vertex k of it
abbrev pub StandsAt : MarkedChain → Here → ℕ → Type 0
StandsAt c here k = Stands (stop_in c) c.chain here k
