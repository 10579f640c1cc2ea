-- The causes of the updates and of the sailing: a refusal's number, and the fault that it is given for. A table has as many rows as the column that `n` is taken of.
use Rattle.std.specs.Prelude.{false, List, [], ◌∷◌, ◌++◌}
use Rattle.column_order.specs.declared.order.Key.TheVariants.{Word}
use Rattle.verdicts.specs.Refuse.{Cause, cause, id_causes}
use Rattle.tables.specs.Marks.{always, where_set}
use Rattle.tables.specs.declared.bounds.Bounds.{Bounds}
use Rattle.tables.specs.declared.mark.Pool.TheVariants.{Bytes, Words, Times}
use Rattle.faults.specs.declared.fault.Test.TheVariants.{Column, Over, Unsorted, Moment, Offset}
use Rattle.tables.specs.declared.lent.Sailing.{Sailing}
use Rattle.tables.specs.declared.lent.Updates.{Updates}

-- the updates, without their times
abbrev pub updates_causes : Bounds → Updates → List Cause
updates_causes b u =
    id_causes u.stop (where_set u.named) false u.sequence.n b.id
    ++ (cause 1 (Column Words u.sequence u.sequence.n)
    ∷ cause 1 (Column Bytes u.named u.sequence.n)
    ∷ cause 2 (Over u.sequence.n b.updates)
    ∷ cause 4 (Unsorted (Word u.sequence) u.sequence.n) ∷ [])

-- the arrivals of updates, and their delays
abbrev pub arrivals_causes : Updates → List Cause
arrivals_causes u =
    cause 1 (Column Times u.arrival u.sequence.n)
    ∷ cause 1 (Column Bytes u.arrives u.sequence.n)
    ∷ cause 1 (Column Times u.arrdelay u.sequence.n)
    ∷ cause 1 (Column Bytes u.arrdelayed u.sequence.n)
    ∷ cause 6 (Moment u.arrival (where_set u.arrives)) ∷ []

-- the departures of updates, and their delays
abbrev pub update_departures_causes : Updates → List Cause
update_departures_causes u =
    cause 1 (Column Times u.departure u.sequence.n)
    ∷ cause 1 (Column Bytes u.departs u.sequence.n)
    ∷ cause 1 (Column Times u.depdelay u.sequence.n)
    ∷ cause 1 (Column Bytes u.depdelayed u.sequence.n)
    ∷ cause 6 (Moment u.departure (where_set u.departs)) ∷ []

-- the sailing
abbrev pub sailing_causes : Bounds → Sailing → List Cause
sailing_causes b s =
    id_causes s.feed always false 1 b.id
    ++ (id_causes s.key always false 1 b.id
    ++ (id_causes s.route (where_set s.routed) false 1 b.id
    ++ (cause 1 (Column Bytes s.routed 1)
    ∷ cause 1 (Column Bytes s.cancelled 1)
    ∷ cause 1 (Column Times s.now 1)
    ∷ cause 1 (Column Times s.offset 1)
    ∷ cause 6 (Moment s.now always)
    ∷ cause 6 (Offset s.offset) ∷ [])))
