use Rattle.std.proofs.Common.{◌≡◌, refl, sym, ◌∙◌, arith}
use Rattle.std.specs.Float.Ieee.{of_bits, of_int}
use Rattle.unit_scales.specs.Scale.{decimal, first_near}
use Rattle.unit_scales.proofs.Units.{near_here, near_later}
use Rattle.unit_scales.proofs.scale.snap_unit_scale.Goals as goal

pub loop-unit-init : goal.loop-unit-init
unfolding decimal of_bits of_int
loop-unit-init c = refl

pub returns-then-near_unit : goal.returns-then-near_unit
returns-then-near_unit c =
    let l = c.loop-unit in
    sym (near_here _ l.unit-index _ (sym c.near_unit.ensures ∙ c.if-near_unit.true) (omega arith)) ∙ l.invariant

pub loop-unit-preserved : goal.loop-unit-preserved
loop-unit-preserved c =
    let l = c.loop-unit in
    sym (near_later _ l.unit-index _ (sym c.near_unit.ensures ∙ c.if-near_unit.false) (omega arith)) ∙ l.invariant

pub returns : goal.returns
unfolding first_near
returns c = let e : c.loop-unit.unit-index ≡ 4 = omega arith in rw e at c.loop-unit.invariant
