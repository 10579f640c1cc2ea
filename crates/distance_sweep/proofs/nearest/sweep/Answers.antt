use Rattle.std.proofs.Common.{refl, sym, ◌∙◌, arith}
use Rattle.std.specs.Float.Ieee.{of_bits}
use Rattle.reach.proofs.Past.{past_infinity}
use Rattle.vertices_within.specs.Near.{least_in}
use Rattle.vertices_within.proofs.Search.{least_next}
use Rattle.vertices_within.proofs.Distance.{metres_way, metres_fits}
use Rattle.distance_sweep.proofs.Remembered.{best_by, seen_none, seen_by, all_seen}
use Rattle.distance_sweep.proofs.nearest.sweep.Goals as goal

pub loop-k-init : goal.loop-k-init
unfolding least_in of_bits
loop-k-init c = record { within = omega arith; seen = seen_none _ _ _; least = refl; beyond = past_infinity _ }

pub aside-requires : goal.aside-requires
aside-requires c = record { k_in_bounds = omega (arith, c.vertices-n.ensures); c_value = rw (c.cos-c.ensures, c.radians.ensures) }

pub nearer-near-requires : goal.nearer-near-requires
nearer-near-requires c = c.loop-k.invariant.beyond

pub loop-k-preserved : goal.loop-k-preserved
loop-k-preserved c =
    let l = c.loop-k in
    let i = l.invariant in
    let n = c.nearer-near in
    record {
      within = omega arith;
      seen = seen_by _ (λ j. metres_fits _ _) _ l.k l.auto.k l.near i.seen n.result (rw c.aside.ensures (sym (metres_way _ _))) n.ensures.next;
      least = rw (best_by _ l.near n.result _ n.ensures.next, c.aside.ensures, ← metres_way) (i.least ∙ least_next _ _ l.near.best l.k (omega (arith, c.vertices-n.ensures)));
      beyond = n.ensures.beyond;
    }

pub returns : goal.returns
returns c =
    let l = c.loop-k in
    let n = c.vertices-n in
    all_seen _ _ _ l.k l.near l.auto.k (omega (arith, l.invariant.within, n.ensures)) (omega (arith, n.ensures)) l.invariant.seen l.invariant.least
