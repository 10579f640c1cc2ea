use Rattle.std.proofs.Common.{sym, ap, ◌∙◌, arith, rules}
use borrow.Author.Tests.{not-true}
use Rattle.lengths.specs.Line.{line_of}
use Rattle.trip_rows.specs.Rows.{row_position}
use Rattle.trip_vertices.specs.Vertices.{positions_from}
use Rattle.row_distances.specs.Rows.{dists_in, marks_in}
use Rattle.backfill.proofs.Filling.{too_few, none_missing, some_missing}
use Rattle.backfill.proofs.rows.backfill_rows.Goals as goal

pub returns-then-vertices-lt2 : goal.returns-then-vertices-lt2
returns-then-vertices-lt2 c = record { dist_after = (too_few _ _ _ _ (sym c.requires.n_value ∙ c.requires.n_value_2) (omega (arith, c.vertices.ensures))).0; measured_after = (too_few _ _ _ _ (sym c.requires.n_value ∙ c.requires.n_value_2) (omega (arith, c.vertices.ensures))).1 }

pub returns-then-not-any_missing : goal.returns-then-not-any_missing
returns-then-not-any_missing c = record { dist_after = (none_missing _ _ _ _ (sym c.requires.n_value ∙ c.requires.n_value_2) (omega (arith, c.vertices.ensures)) (sym c.any_missing.ensures ∙ not-true _ c.if-not-any_missing.true-raw)).0; measured_after = (none_missing _ _ _ _ (sym c.requires.n_value ∙ c.requires.n_value_2) (omega (arith, c.vertices.ensures)) (sym c.any_missing.ensures ∙ not-true _ c.if-not-any_missing.true-raw)).1 }

pub unit_of-unit-requires : goal.unit_of-unit-requires
unit_of-unit-requires c = record { n_value = c.requires.n_value; n_value_2 = c.requires.n_value_2 }

pub fill-requires : goal.fill-requires
fill-requires c = record { nonzero = omega (arith, c.vertices.ensures); n_value = c.requires.n_value; n_value_2 = c.requires.n_value_2 }

pub returns : goal.returns
returns c = let e = some_missing (line_of c.args.line.lat.now c.args.line.lon.now) (positions_from (row_position c.args.lent.now.bytes.now c.args.lent.now.words.now c.args.lent.now.reals.now c.args.stops c.args.calls) c.args.first c.args.n) c.args.dist.now c.args.measured.now (sym c.requires.n_value ∙ c.requires.n_value_2) (omega (arith, c.vertices.ensures, c.if-vertices-lt2.false)) c.unit_of-unit.ensures in record { dist_after = c.fill.ensures.dist_after ∙ ap dists_in e; measured_after = c.fill.ensures.measured_after ∙ ap marks_in e }
