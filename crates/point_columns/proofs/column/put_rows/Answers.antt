use native.Mathlib.Omega.{arith}
use native.Mathlib.Numerals.{add-one}
use mathlib.Core.Path.{◌≡◌, refl, ◌∙◌}
use lib.Ieee.{nan}
use lib.ListN.{length, length-set}
use Rattle.point_columns.proofs.Writing.{one_more, all_of_them}
use Rattle.point_columns.proofs.column.put_rows.Goals as goal

pub loop-k-init : goal.loop-k-init
loop-k-init c = (refl, refl)

pub bounds-out-k : goal.bounds-out-k
bounds-out-k c = omega (arith, c.loop-k.invariant.0, c.requires)

pub loop-k-preserved : goal.loop-k-preserved
loop-k-preserved c =
    let i = c.loop-k.invariant in
    (simp length-set i.0, rw (i.1, add-one) (one_more _ _ nan _ (omega (arith, c.requires)) c.loop-k-test.true))

pub returns : goal.returns
returns c =
    let e : c.loop-k.k ≡ length c.args.rows.now = omega (arith, c.loop-k-test.false) in
    rw (c.loop-k.invariant.1, e) (all_of_them c.args.rows.now c.args.out.now (length c.args.rows.now) (omega arith))
