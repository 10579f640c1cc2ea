-- `plans::turn::approach_status` meets its contract.
use borrow.Author.Rules.{rules}
use mathlib.Core.Path.{◌∙◌, sym}
use Rattle.plans.proofs.turn.approach_status.Goals as goal

pub returns-then-incoming : goal.returns-then-incoming
returns-then-incoming c = rw (sym c.incoming.ensures ∙ c.if-incoming.true)

pub returns : goal.returns
returns c = rw (sym c.incoming.ensures ∙ c.if-incoming.false)
