-- `calibration::samples::sample` meets its contract.
use Rattle.std.proofs.Common.{arith}
use Rattle.lengths.specs.Line.{line_of}
use Rattle.calibration.proofs.samples.Rows.{sample_at, sample_count}
use Rattle.calibration.proofs.samples.sample.Goals as goal

pub vertex-requires : goal.vertex-requires
vertex-requires c =
    let a = c.args in
    omega (arith, c.requires, sample_count (line_of a.line.lat.now a.line.lon.now) a.dist.now)

pub offset_bounds-dist-k : goal.offset_bounds-dist-k
offset_bounds-dist-k c =
    let a = c.args in
    omega (arith, c.requires, sample_count (line_of a.line.lat.now a.line.lon.now) a.dist.now)

pub bounds-dist-k : goal.bounds-dist-k
bounds-dist-k c =
    let a = c.args in
    omega (arith, c.requires, sample_count (line_of a.line.lat.now a.line.lon.now) a.dist.now)

pub returns : goal.returns
returns c =
    rw (sample_at (line_of c.args.line.lat.now c.args.line.lon.now) c.args.dist.now c.args.k c.requires, c.vertex.ensures, c.f32_to_f64_with_nan.ensures)
