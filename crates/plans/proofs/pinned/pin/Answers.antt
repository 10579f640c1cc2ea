-- `plans::pinned::pin` meets its contract.
use borrow.Author.Rules.{rules}
use mathlib.Core.Path.{◌∙◌, sym}
use Rattle.plans.proofs.Best.{best_below}
use Rattle.plans.proofs.pinned.pin.Goals as goal

pub returns-in_default : goal.returns-in_default
returns-in_default c = rw (sym c.best_row.ensures ∙ c.in_default.is)

pub update_stop-requires : goal.update_stop-requires
update_stop-requires c = rw c.reported.ensures (record { ready = c.requires; k_lt_n = best_below _ _ _ _ (sym c.best_row.ensures ∙ c.in-Some.is) })

pub returns : goal.returns
returns c =
    rw (sym c.best_row.ensures ∙ c.in-Some.is, c.at_row.ensures, c.update_stop.ensures, c.reported.ensures)
