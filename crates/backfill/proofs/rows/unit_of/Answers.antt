use Rattle.std.proofs.Common.{sym, ◌∙◌}
use borrow.Author.Tests.{not-true, not-false}
use Rattle.backfill.specs.Trip.{unit_of}
use Rattle.row_distances.proofs.Columns.{marks_back}
use Rattle.backfill.proofs.Telling.{ends_tell}
use Rattle.backfill.proofs.rows.unit_of.Goals as goal

pub returns-then-not-any_measured : goal.returns-then-not-any_measured
unfolding unit_of
returns-then-not-any_measured c = rw (marks_back c.args.dist.now c.args.measured.now (sym c.requires.n_value ∙ c.requires.n_value_2), sym c.any_measured.ensures ∙ not-true _ c.if-not-any_measured.true-raw)

pub ends_of-requires : goal.ends_of-requires
ends_of-requires c = record { n_value = c.requires.n_value; n_value_2 = c.requires.n_value_2 }

pub returns : goal.returns
unfolding unit_of
returns c = rw (marks_back c.args.dist.now c.args.measured.now (sym c.requires.n_value ∙ c.requires.n_value_2), sym c.any_measured.ensures ∙ not-false _ c.if-not-any_measured.false-raw, c.ends_unit.ensures, c.ends_of.ensures, ends_tell)
