use Prim.Native.Nat.{◌-◌}
use native.Mathlib.Omega.{arith}
use mathlib.Core.Path.{◌≡◌, refl, sym, ◌∙◌}
use lib.ListN.{drop}
use Rattle.lengths.specs.Line.{line_of}
use Rattle.vertices_within.specs.Near.{distances_of, first_within}
use Rattle.vertices_within.proofs.Search.{first_hit, first_miss, first_over}
use Rattle.vertices_within.proofs.Distance.{metres_way}
use Rattle.vertices_within.proofs.near.first_within.Goals as goal

pub aside-requires : goal.aside-requires
aside-requires c = record { k_in_bounds = omega (arith, c.vertices-k-end.ensures); c_value = rw (c.cos-c.ensures, c.radians.ensures) }

pub is_within-requires : goal.is_within-requires
is_within-requires c = c.limit-far.ensures

pub returns-then-is_within : goal.returns-then-is_within
returns-then-is_within c =
    sym (c.loop-k.invariant ∙ first_hit _ _ _ c.loop-k.k (omega (arith, c.vertices-k-end.ensures)) (rw (metres_way, ← c.aside.ensures, ← c.is_within.ensures) c.if-is_within.true))

pub loop-k-preserved : goal.loop-k-preserved
loop-k-preserved c =
    c.loop-k.invariant ∙ first_miss _ _ _ c.loop-k.k (omega (arith, c.vertices-k-end.ensures)) (rw (metres_way, ← c.aside.ensures, ← c.is_within.ensures) c.if-is_within.false)

pub returns : goal.returns
returns c =
    sym (c.loop-k.invariant ∙ first_over _ _ _ c.loop-k.k (omega (arith, c.vertices-k-end.ensures)))
