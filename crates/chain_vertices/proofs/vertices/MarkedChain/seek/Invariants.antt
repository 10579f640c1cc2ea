-- It stands at vertex j.
use Rattle.chain_vertices.specs.Walk.{StandsAt}
use Rattle.chain_vertices.proofs.vertices.MarkedChain.seek.Given as goal

abbrev pub invariant-loop-j : goal.invariant-loop-j
invariant-loop-j l = StandsAt l.self l.here l.j
