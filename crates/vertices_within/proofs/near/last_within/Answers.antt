use Rattle.std.proofs.Common.{sym, arith}
use Rattle.vertices_within.proofs.Search.{none_past, none_before, last_hit, last_none}
use Rattle.vertices_within.proofs.Distance.{metres_way}
use Rattle.vertices_within.proofs.near.last_within.Goals as goal

pub loop-k-init : goal.loop-k-init
loop-k-init c = record { above = omega (arith, c.vertices-k.ensures); none = none_past _ _ _ _ (omega (arith, c.vertices-k.ensures)) }

pub aside-requires : goal.aside-requires
aside-requires c = record { k_in_bounds = omega (arith, c.vertices-k.ensures); c_value = rw (c.cos-c.ensures, c.radians.ensures) }

pub is_within-requires : goal.is_within-requires
is_within-requires c = c.limit-far.ensures

pub returns-then-is_within : goal.returns-then-is_within
returns-then-is_within c =
    let l = c.loop-k in
    sym (last_hit _ _ _ _ l.k c.loop-k-test.true (omega (arith, c.vertices-k.ensures)) l.invariant.none (rw (metres_way, ← c.aside.ensures, ← c.is_within.ensures) c.if-is_within.true))

pub loop-k-preserved : goal.loop-k-preserved
loop-k-preserved c =
    let l = c.loop-k in
    record {
      above = omega arith;
      none = none_before _ _ _ l.k (omega arith) (omega (arith, c.vertices-k.ensures)) l.invariant.none (rw (metres_way, ← c.aside.ensures, ← c.is_within.ensures) c.if-is_within.false);
    }

pub returns : goal.returns
returns c =
    let l = c.loop-k in
    sym (last_none _ _ _ _ l.k l.invariant.above (omega arith) (omega (arith, c.vertices-k.ensures)) l.invariant.none)
