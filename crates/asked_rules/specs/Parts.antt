-- The causes of each part that is asked of: a refusal's number, and the fault that it is given for. A table has as many rows as the column that `n` is taken of.
use Rattle.std.specs.Prelude.{false, List, [], ◌∷◌, ◌++◌}
use Rattle.verdicts.specs.Refuse.{Cause, cause, id_causes}
use Rattle.tables.specs.Marks.{always, where_set}
use Rattle.tables.specs.declared.bounds.Bounds.{Bounds}
use Rattle.tables.specs.declared.mark.Pool.TheVariants.{Bytes, Words, Times}
use Rattle.faults.specs.declared.fault.Test.TheVariants.{Column, Moment, Offset, NoDate}
use Rattle.tables.specs.declared.lent.Journey.{Journey}
use Rattle.tables.specs.declared.lent.LegAsked.{LegAsked}
use Rattle.tables.specs.declared.lent.Service.{Service}

-- what matching is asked of
abbrev pub journey_causes : Bounds → Journey → List Cause
journey_causes b j =
    id_causes j.key always false 1 b.id
    ++ (id_causes j.route (where_set j.routed) false 1 b.id
    ++ (cause 1 (Column Bytes j.routed 1)
    ∷ cause 1 (Column Times j.departure 1)
    ∷ cause 1 (Column Bytes j.departs 1)
    ∷ cause 1 (Column Times j.offset 1)
    ∷ cause 6 (Moment j.departure (where_set j.departs))
    ∷ cause 6 (Offset j.offset) ∷ []))

-- what a calendar is asked of
abbrev pub service_causes : Bounds → Service → List Cause
service_causes b s =
    id_causes s.feed always false 1 b.id
    ++ (id_causes s.service always false 1 b.id
    ++ (cause 1 (Column Words s.date 1)
    ∷ cause 10 (NoDate s.date) ∷ []))

-- the trip that a leg is asked of
abbrev pub leg_asked_causes : Bounds → LegAsked → List Cause
leg_asked_causes b l = id_causes l.trip always false 1 b.id
