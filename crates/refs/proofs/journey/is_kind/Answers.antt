use borrow.Author.Rules.{rules}
use mathlib.Core.Path.{◌∙◌, sym}
use Rattle.refs.specs.Refs.{is_kind}
use Rattle.texts.proofs.equal_ignoring_case.Reads as equal-ignoring-case-reads
use Rattle.refs.proofs.journey.is_kind.Goals as goal

pub returns-then-equal_ignoring_case : goal.returns-then-equal_ignoring_case
unfolding is_kind
returns-then-equal_ignoring_case c = simp (sym c.equal_ignoring_case.ensures ∙ c.if-equal_ignoring_case.true)

pub returns : goal.returns
unfolding is_kind
returns c = c.equal_ignoring_case-2.ensures ∙ simp (sym c.equal_ignoring_case.ensures ∙ c.if-equal_ignoring_case.false)
