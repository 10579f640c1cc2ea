-- `sailings::departure::local` meets its contract.
use Rattle.std.specs.Prelude.{Option, ℕ}
use borrow.Author.Rules.{rules}
use mathlib.Core.Path.{◌∙◌, ap, sym, subst}
use lib.IntN.{pos}
use Rattle.moments.specs.Moments.{InReach}
use Rattle.asked_journey.proofs.Sums.{sum_fits, sum_read}
use Rattle.sailings.specs.Sailing.{InTime, local_at}
use Rattle.sailings.proofs.departure.local.Goals as goal

pub overflow_cast-result : goal.overflow_cast-result
overflow_cast-result c = record { sfits = subst InTime c.in-Some.is c.requires.in_time }

pub overflow_add-result : goal.overflow_add-result
overflow_add-result c =
    let a = c.args in
    sum_fits (pos c.in-Some.x) a.offset (record { sfits = subst InTime c.in-Some.is c.requires.in_time }) c.ranges.offset
    (subst (λ (m : Option ℕ). InReach (local_at m a.offset)) c.in-Some.is c.requires.in_reach)

pub returns-in-Some : goal.returns-in-Some
returns-in-Some c =
    let a = c.args in
    sum_read (pos c.in-Some.x) a.offset (record { sfits = subst InTime c.in-Some.is c.requires.in_time }) c.ranges.offset
    (subst (λ (m : Option ℕ). InReach (local_at m a.offset)) c.in-Some.is c.requires.in_reach)
    ∙ ap (λ (m : Option ℕ). local_at m a.offset) (sym c.in-Some.is)

pub returns-in-None : goal.returns-in-None
returns-in-None c = ap (λ (m : Option ℕ). local_at m c.args.offset) (sym c.in-None.is)
