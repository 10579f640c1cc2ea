use Rattle.std.proofs.Common.{◌≡◌, Bool, true, false, get_or, refl, arith}
use Rattle.std.specs.Float.{nan}
use mir.Val.{bool_byte}
use Rattle.stop_record.specs.Record.{none}
use Rattle.records.specs.Records.{flag_of, dist_col, known_col}
use Rattle.records.proofs.Lists.{set_next}
use Rattle.records.proofs.columns.Goals as goal

-- a bool's byte
flag_is : (y : Bool) → bool_byte y ≡ flag_of y
flag_is true = refl
flag_is false = refl

pub loop-i-preserved : goal.loop-i-preserved
loop-i-preserved c =
    let r = c.args.r.now in
    record {
      dists = rw c.loop-i.invariant.dists (set_next (dist_col r) c.loop-i.i c.args.dists.now nan (omega arith));
      known = rw (c.loop-i.invariant.known, flag_is (get_or r c.loop-i.i none).measured) (set_next (known_col r) c.loop-i.i c.args.known.now 0 (omega arith));
    }
