use Rattle.std.proofs.Common.{ap, ◌∙◌}
use Rattle.chain_vertices.specs.Vertices.{vertices_of}
use Rattle.chain_vertices.proofs.Counting.{vertices_are}
use Rattle.chain_vertices.proofs.vertices.MarkedChain.new.Goals as goal

pub invariant_of-result : goal.invariant_of-result
invariant_of-result c = record { right = c.requires.marked; full = c.vertices_of.ensures ∙ ap vertices_of c.requires.kept_value ∙ vertices_are _ _ }
