-- The causes of the trips: a refusal's number, and the fault that it is given for. The table has as many rows as the column that `n` is taken of.
use Rattle.std.specs.Prelude.{ℕ, false, List, ◌∷◌, ◌++◌}
use Rattle.verdicts.specs.Refuse.{Cause, cause, id_causes}
use Rattle.tables.specs.Marks.{always}
use Rattle.tables.specs.declared.bounds.Bounds.{Bounds}
use Rattle.tables.specs.declared.mark.Pool.TheVariants.{Bytes, Words}
use Rattle.faults.specs.declared.fault.Test.TheVariants.{Column, Over, EndsPast}
use Rattle.tables.specs.declared.lent.Trips.{Trips}

-- the trips: their rows among so many stop times, their feeds and services, and their other columns
abbrev pub trips_causes : Bounds → Trips → ℕ → List Cause
trips_causes b t rows =
    cause 1 (Column Words t.first t.first.n)
    ∷ cause 1 (Column Words t.count t.first.n)
    ∷ cause 1 (Column Words t.shape t.first.n)
    ∷ cause 1 (Column Bytes t.shaped t.first.n)
    ∷ cause 1 (Column Bytes t.frequency t.first.n)
    ∷ cause 2 (Over t.first.n b.trips)
    ∷ cause 5 (EndsPast t.first t.count rows)
    ∷ (id_causes t.feed always false t.first.n b.id
    ++ (id_causes t.service always false t.first.n b.id))
