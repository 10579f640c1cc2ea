use native.Mathlib.Omega.{arith}
use mathlib.Core.Path.{sym, subst}
use Prim.Native.Nat.{◌+◌}
use lib.ListN.{set}
use Rattle.trip_backfill.proofs.Copying.{Copied, copy_on}
use Rattle.trip_backfill.proofs.trips.copy.Goals as goal

pub loop-k-preserved : goal.loop-k-preserved
loop-k-preserved g c =
    let done = copy_on c.args.from.now c.args.to.now c.loop-k.invariant c.index-from-k.result (omega (arith, c.loop-k-test.true)) c.requires in
    subst (λ (x : _). Copied c.args.from.now c.args.to.now (set c.loop-k.to c.loop-k.k x) (c.loop-k.k + 1)) (sym c.index-from-k.is) done
