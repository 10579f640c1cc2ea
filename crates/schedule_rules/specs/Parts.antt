-- The causes of the stop times: a refusal's number, and the fault that it is given for. The table has as many rows as the column that `n` is taken of.
-- What a column says of another table stands apart, since an operation may be lent the one and not the other.
use Rattle.std.specs.Prelude.{ℕ, List, [], ◌∷◌}
use Rattle.verdicts.specs.Refuse.{Cause, cause}
use Rattle.tables.specs.Marks.{always, where_set}
use Rattle.tables.specs.declared.bounds.Bounds.{Bounds}
use Rattle.tables.specs.declared.mark.Pool.TheVariants.{Bytes, Words, Dists}
use Rattle.faults.specs.declared.fault.Test.TheVariants.{Column, Over, Reaches, NotFinite}
use Rattle.tables.specs.declared.lent.StopTimes.{StopTimes}
use Rattle.tables.specs.declared.lent.Trips.{Trips}

-- the stop times
abbrev pub calls_causes : Bounds → StopTimes → List Cause
calls_causes b c =
    cause 1 (Column Words c.stop c.stop.n)
    ∷ cause 1 (Column Words c.sequence c.stop.n)
    ∷ cause 1 (Column Words c.arrival c.stop.n)
    ∷ cause 1 (Column Words c.departure c.stop.n)
    ∷ cause 1 (Column Dists c.dist c.stop.n)
    ∷ cause 1 (Column Bytes c.measured c.stop.n)
    ∷ cause 2 (Over c.stop.n b.calls) ∷ []

-- where trips and stop times are placed: the trips' shapes, of so many, the stops of stop times, of so many, and their distances
abbrev pub placing_causes : Trips → StopTimes → ℕ → ℕ → List Cause
placing_causes t c shapes stops =
    cause 5 (Reaches t.shape (where_set t.shaped) shapes)
    ∷ cause 5 (Reaches c.stop always stops)
    ∷ cause 8 (NotFinite c.dist (where_set c.measured)) ∷ []

-- the schedule seconds of stop times
abbrev pub call_times_causes : StopTimes → List Cause
call_times_causes c =
    cause 6 (Reaches c.arrival always 604800)
    ∷ cause 6 (Reaches c.departure always 604800) ∷ []
