-- `calibration::samples::count` meets its contract.
use Rattle.std.proofs.Common.{arith}
use Rattle.lengths.specs.Line.{line_of}
use Rattle.calibration.proofs.samples.Rows.{sample_count}
use Rattle.calibration.proofs.samples.count.Goals as goal

pub returns : goal.returns
returns c =
    let a = c.args in
    omega (arith, c.vertices.ensures, sample_count (line_of a.line.lat.now a.line.lon.now) a.dist.now)
