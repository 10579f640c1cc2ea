use Rattle.std.proofs.Common.{sym, ◌∙◌}
use Rattle.std.specs.Float.Ieee.{of_bits}
use Rattle.unit_scales.specs.Scale.{decimal}
use Rattle.unit_scales.specs.Metres.{affine_between}
use Rattle.unit_scales.proofs.metres.between.Goals as goal
use Rattle.unit_scales.proofs.metres.between.Goals.{then-too_near, else-too_near}

pub returns-then-too_near-2 : goal.returns-then-too_near-2
unfolding affine_between decimal of_bits
returns-then-too_near-2 c =
    elim c.if-too_near.branch [
      | then-too_near w ↦ rw (sym c.too_near.ensures ∙ w.if-too_near.true)
      | else-too_near w ↦ rw (sym c.too_near.ensures ∙ w.if-too_near.false, sym w.too_near-else-too_near.ensures ∙ sym w.value-is ∙ c.if-too_near-2.true)
    ]

pub returns-else-too_near-2 : goal.returns-else-too_near-2
unfolding affine_between decimal of_bits
returns-else-too_near-2 c =
    elim c.if-too_near.branch [
      | then-too_near w ↦ cc
      | else-too_near w ↦ rw (sym c.too_near.ensures ∙ w.if-too_near.false, sym w.too_near-else-too_near.ensures ∙ sym w.value-is ∙ c.if-too_near-2.false, c.scaled.ensures, c.snap_unit_scale.ensures)
    ]
