-- what the samples so far and the rest give is what all give
use Rattle.std.proofs.Common.{◌≡◌}
use Rattle.trip_rows.specs.Rows.{row_position}
use Rattle.trip_vertices.specs.Vertices.{positions_from}
use Rattle.row_distances.specs.Rows.{rows_of}
use Rattle.backfill.specs.Samples.{ends_of, samples_in}
use Rattle.backfill.proofs.Telling.{added}
use Rattle.backfill.proofs.ends.ends_of.Given as goal

abbrev pub invariant-loop-k : goal.invariant-loop-k
invariant-loop-k l =
    let position = row_position l.lent.bytes.now l.lent.words.now l.lent.reals.now l.stops l.calls in
    ends_of (samples_in (positions_from position l.first l.n) (rows_of l.dist l.measured)) ≡ added position l.first l.n l.dist l.measured l.ends l.k
