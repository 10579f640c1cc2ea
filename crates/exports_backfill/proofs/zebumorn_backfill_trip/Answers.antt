-- `exports_backfill::zebumorn_backfill_trip` meets its contract: backfill's answer, told.
use borrow.Author.Rules.{rules}
use native.Mathlib.Omega.{arith}
use mathlib.Core.Path.{ap, ◌∙◌}
use Rattle.refusals.specs.Answer.{number_of}
use Rattle.exports_backfill.proofs.zebumorn_backfill_trip.Goals as goal

pub returns : goal.returns
returns c = let e = c.backfill_trip.ensures in record { value = omega (arith, c.number_or_zero.ensures ∙ ap number_of e.result_value); dist_after = e.dist_after; measured_after = e.measured_after }
