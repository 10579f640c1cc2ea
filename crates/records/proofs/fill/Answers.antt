use Rattle.std.proofs.Common.{◌≡◌, length, arith}
use Rattle.stop_record.specs.Record.{none}
use Rattle.records.specs.Records.{fill_row}
use Rattle.records.proofs.Lists.{set_next, map_to_all, get_or-map_to}
use Rattle.records.proofs.fill.Goals as goal

pub loop-i-preserved : goal.loop-i-preserved
loop-i-preserved c =
    let g = fill_row c.args.dists.now c.args.known.now in
    rw (c.filled.ensures, c.loop-i.invariant, get_or-map_to g c.loop-i.i c.args.r.now none) (set_next g c.loop-i.i c.args.r.now none (omega arith))

pub returns : goal.returns
returns c =
    let g = fill_row c.args.dists.now c.args.known.now in
    let e : c.loop-i.i ≡ length c.args.r.now = omega arith in
    rw (c.loop-i.invariant, e) (map_to_all g c.args.r.now)
