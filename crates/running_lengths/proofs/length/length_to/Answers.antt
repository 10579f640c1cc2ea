use Rattle.std.proofs.Common.{sym, ◌∙◌, arith}
use Rattle.std.specs.Float.Ieee.{of_bits}
use Rattle.running_lengths.proofs.Running.{first_length, next_length, last_length}
use Rattle.running_lengths.proofs.length.length_to.Goals as goal

pub loop-i-init : goal.loop-i-init
unfolding of_bits
loop-i-init c = sym (first_length _)

pub loop-i-preserved : goal.loop-i-preserved
loop-i-preserved c =
    rw (c.metres-sum.ensures, c.vertex-in-loop-i.ensures, c.vertex.ensures, c.loop-i.invariant)
    (sym (next_length _ c.loop-i.i (omega (arith, c.vertices.ensures))))

pub returns : goal.returns
returns c = c.loop-i.invariant ∙ last_length _ _ c.loop-i.i (omega (arith, c.vertices.ensures))
