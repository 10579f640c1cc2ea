use Rattle.std.proofs.Common.{arith}
use Rattle.records.specs.Records.{stop_col}
use Rattle.records.proofs.Lists.{set_next}
use Rattle.records.proofs.stops_of.Goals as goal

pub loop-i-preserved : goal.loop-i-preserved
loop-i-preserved c = rw c.loop-i.invariant (set_next (stop_col c.args.r.now) c.loop-i.i c.args.at.now 0 (omega arith))
