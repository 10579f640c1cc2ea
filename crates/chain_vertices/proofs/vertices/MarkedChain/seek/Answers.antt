use Rattle.std.proofs.Common.{◌≡◌, suc, ◌+◌, arith}
use Rattle.chain_vertices.proofs.Standing.{beyond}
use Rattle.chain_vertices.proofs.vertices.MarkedChain.seek.Goals as goal

pub returns-then-self-k : goal.returns-then-self-k
returns-then-self-k c = rw c.past.ensures (beyond _ _ c.args.k (omega (arith, c.args.self.now.full)))

pub loop-j-preserved : goal.loop-j-preserved
loop-j-preserved c = let j = c.loop-j.j in let e : suc j ≡ j + 1 = omega arith in rw e at c.onward-here.ensures

pub returns : goal.returns
returns c = let l = c.loop-j in let e : l.j ≡ c.args.k = omega arith in rw e at l.invariant
