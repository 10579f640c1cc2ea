use Rattle.std.proofs.Common.{◌∙◌, arith}
use Rattle.std.specs.Float.Ieee.{of_bits}
use Rattle.reach.proofs.Past.{past_infinity}
use Rattle.least_distance.proofs.Backward.{least_past, least_back, least_all}
use Rattle.vertices_within.proofs.Distance.{metres_way}
use Rattle.least_distance.proofs.least.least_from.Goals as goal

pub loop-k-init : goal.loop-k-init
unfolding of_bits
loop-k-init c = let n = c.vertices-k.ensures in record { above = omega (arith, n); best = least_past _ _ c.vertices-k.result (omega (arith, n)); beyond = past_infinity _ }

pub aside-requires : goal.aside-requires
aside-requires c = record { k_in_bounds = omega (arith, c.vertices-k.ensures); c_value = rw (c.cos-c.ensures, c.radians.ensures) }

pub lesser-least-requires : goal.lesser-least-requires
lesser-least-requires c = c.loop-k.invariant.beyond

pub loop-k-preserved : goal.loop-k-preserved
loop-k-preserved c =
    let l = c.loop-k in
    record {
      above = omega arith;
      best = rw (c.lesser-least.ensures.best, c.aside.ensures, ← metres_way) (least_back _ _ l.k (omega arith) (omega (arith, c.vertices-k.ensures)) _ l.invariant.best);
      beyond = c.lesser-least.ensures.beyond;
    }

pub returns : goal.returns
returns c = let l = c.loop-k in l.invariant.best ∙ least_all _ _ _ l.k l.invariant.above (omega arith)
