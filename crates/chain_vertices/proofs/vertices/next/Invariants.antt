-- The last of all is the last below m.
use Rattle.std.proofs.Common.{◌≡◌}
use Rattle.ids.specs.First.{last}
use Rattle.chain_vertices.specs.Vertices.{marked_ahead}
use Rattle.chain_vertices.proofs.vertices.next.Given as goal

abbrev pub invariant-loop-m : goal.invariant-loop-m
invariant-loop-m l = last (marked_ahead l.chain l.marks) l.left ≡ last (marked_ahead l.chain l.marks) l.m
