use borrow.Author.Rules.{rules}
use Rattle.refs.specs.Refs.{without_loc_part}
use mathlib.Core.Path.{◌∙◌, sym, ap}
use Prim.Native.Nat.{ℕ}
use mathlib.Core.List.{List}
use Rattle.texts.specs.Texts.{equal_ignoring_case}
use Rattle.refs.specs.Words.{loc_word}
use Rattle.texts.proofs.equal_ignoring_case.Reads as equal-ignoring-case-reads
use Rattle.text_runs.proofs.last_of.Reads as last-of-reads
use Rattle.parts.proofs.after_last.Reads as after-last-reads
use Rattle.parts.proofs.before.Reads as before-reads
use Rattle.refs.proofs.journey.without_loc_part.Goals as goal

pub returns-then-equal_ignoring_case : goal.returns-then-equal_ignoring_case
unfolding without_loc_part
returns-then-equal_ignoring_case c = rw (c.before-then-equal_ignoring_case.ensures, c.last_of.ensures, sym (c.equal_ignoring_case.ensures ∙ ap (λ (t : List ℕ). equal_ignoring_case t loc_word) c.after_last.ensures) ∙ c.if-equal_ignoring_case.true)

pub returns : goal.returns
unfolding without_loc_part
returns c = rw (sym (c.equal_ignoring_case.ensures ∙ ap (λ (t : List ℕ). equal_ignoring_case t loc_word) c.after_last.ensures) ∙ c.if-equal_ignoring_case.false)
