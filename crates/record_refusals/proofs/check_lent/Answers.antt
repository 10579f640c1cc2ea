use borrow.Author.Rules.{rules}
use mathlib.Core.Path.{◌≡◌, ◌∙◌}
use Rattle.tables.specs.Pools.{pools_of}
use Rattle.verdicts.specs.Refuse.{refusal_of}
use Rattle.verdicts.specs.Verdict.{least}
use Rattle.verdicts.proofs.Folds.{over, then}
use Rattle.record_refusals.specs.Verdict.{lent_causes}
use Rattle.record_refusals.proofs.check_lent.Goals as goal

pub returns : goal.returns
unfolding lent_causes
returns c =
    let s = c.args in
    let e : least c.points_within-line.result ≡ refusal_of (pools_of s.lent.now) (lent_causes c.chart-b.result s.l) =
    then _ _ _ _ _ _ (rw c.new.ensures at c.stops-stops.ensures)
    (then _ _ _ _ _ _ c.points_within-line.ensures
    (over _ _)) in
    c.number_or_zero.ensures ∙ c.finish.ensures ∙ e ∙ rw c.chart-b.ensures
