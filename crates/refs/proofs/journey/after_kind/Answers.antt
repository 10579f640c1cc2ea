use Rattle.std.specs.Prelude.{Option, ℕ}
use borrow.Author.Rules.{rules}
use mathlib.Core.Path.{◌∙◌, sym, ap}
use mathlib.Core.List.{[]}
use Rattle.parts.specs.Parts.{up_to}
use Rattle.refs.specs.Refs.{after_kind, is_kind}
use Rattle.text_runs.proofs.first_of.Reads as first-of-reads
use Rattle.refs.proofs.journey.is_kind.Reads as is-kind-reads
use Rattle.refs.proofs.journey.without_loc_part.Reads as without-loc-part-reads
use Rattle.parts.proofs.before.Reads as before-reads
use Rattle.parts.proofs.past_place.Reads as past-place-reads
use Rattle.refs.proofs.journey.after_kind.Goals as goal

pub returns-then-is_kind : goal.returns-then-is_kind
unfolding after_kind
returns-then-is_kind c = rw (c.without_loc_part.ensures, c.past_place.ensures, c.first_of-colon.ensures, sym (c.is_kind.ensures ∙ ap is_kind (c.before-2.ensures ∙ ap (λ (f : Option ℕ). up_to f c.args.s.now []) c.first_of-colon.ensures)) ∙ c.if-is_kind.true)

pub returns : goal.returns
unfolding after_kind
returns c = rw (sym (c.is_kind.ensures ∙ ap is_kind (c.before-2.ensures ∙ ap (λ (f : Option ℕ). up_to f c.args.s.now []) c.first_of-colon.ensures)) ∙ c.if-is_kind.false)
