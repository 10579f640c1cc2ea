use Rattle.std.proofs.Common.{arith}
use Rattle.chain_lines.proofs.Line.{two_or_more}
use Rattle.chain_vertices.specs.Walk.{stop_in}
use Rattle.chain_vertices.proofs.vertices.MarkedChain.whole.Goals as goal

pub overflow_sub-result : goal.overflow_sub-result
overflow_sub-result c = let s = c.args.self.now in omega (arith, s.full, two_or_more (stop_in s) s.chain)
