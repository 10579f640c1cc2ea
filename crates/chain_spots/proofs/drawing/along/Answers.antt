use Rattle.std.proofs.Common.{sym, ◌∙◌}
use Rattle.std.specs.Float.Ieee.{of_bits}
use Rattle.chain_spots.proofs.Turns.{alone, at_start}
use Rattle.chain_spots.proofs.drawing.along.Goals as goal
use Rattle.chain_spots.proofs.drawing.along.Goals.{then-part, else-part}

pub returns-then-f : goal.returns-then-f
unfolding of_bits
returns-then-f c =
    elim c.if-part.branch [
      | then-part w ↦ alone _ _ _ w.if-part.true
      | else-part w ↦ at_start _ _ _ w.if-part.false (sym w.value-is ∙ c.if-f.true)
    ]
