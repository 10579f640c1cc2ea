use mathlib.Core.Path.{◌∙◌, subst, sym}
use Rattle.moments.specs.Moments.{InReach}
use Rattle.asked_journey.specs.Journeys.{local_of}
use Rattle.asked_journey.proofs.Sums.{summed, sum_fits, sum_read}
use Rattle.asked_journey.proofs.asked.departs.Reads as departs-reads
use Rattle.asked_journey.proofs.asked.time.Reads as time-reads
use Rattle.asked_journey.proofs.asked.local.Goals as goal

pub overflow_add-result : goal.overflow_add-result
overflow_add-result c =
    let e = summed _ _ _ _ _ (sym c.departs.ensures ∙ c.if-departs.true) c.time.ensures c.time-then-departs.ensures in
    sum_fits c.time.result c.time-then-departs.result (record { sfits = c.time.type_inv }) (record { sfits = c.time-then-departs.type_inv }) (subst InReach e c.requires)

pub returns-then-departs : goal.returns-then-departs
returns-then-departs c =
    let e = summed _ _ _ _ _ (sym c.departs.ensures ∙ c.if-departs.true) c.time.ensures c.time-then-departs.ensures in
    sum_read c.time.result c.time-then-departs.result (record { sfits = c.time.type_inv }) (record { sfits = c.time-then-departs.type_inv }) (subst InReach e c.requires) ∙ sym e

pub returns : goal.returns
unfolding local_of
returns c = rw (sym c.departs.ensures ∙ c.if-departs.false)
