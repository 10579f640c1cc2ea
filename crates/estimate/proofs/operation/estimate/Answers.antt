-- `estimate::operation::estimate` meets its contract.
use borrow.Author.Rules.{rules}
use mathlib.Core.Path.{sym}
use Rattle.answers.proofs.Told.{handed_on, told}
use Rattle.estimate.specs.Answers.{estimate_of}
use Rattle.estimate.proofs.operation.estimate.Goals as goal

pub returns-in_err-check_estimate : goal.returns-in_err-check_estimate
unfolding estimate_of
returns-in_err-check_estimate c = handed_on _ _ _ _ c.from_residual.ensures.1 (rw c.chart.ensures at c.in_err-check_estimate.ensures)

pub outcome-answer-requires : goal.outcome-answer-requires
outcome-answer-requires c = sym (rw c.chart.ensures at c.in_ok-check_estimate.ensures)

pub returns : goal.returns
unfolding estimate_of
returns c = rw (← c.outcome-answer.ensures) (told _ _ (sym (rw c.chart.ensures at c.in_ok-check_estimate.ensures)))
