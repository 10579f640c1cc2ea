-- The causes of the stops: a refusal's number, and the fault that it is given for. The table has as many rows as the column that `n` is taken of.
use Rattle.std.specs.Prelude.{true, false, List, ◌∷◌, ◌++◌}
use Rattle.verdicts.specs.Refuse.{Cause, cause, id_causes}
use Rattle.tables.specs.Marks.{always, where_set}
use Rattle.tables.specs.declared.bounds.Bounds.{Bounds}
use Rattle.tables.specs.declared.mark.Pool.TheVariants.{Bytes, Reals}
use Rattle.faults.specs.declared.fault.Test.TheVariants.{Column, Over, OffGlobe}
use Rattle.tables.specs.declared.lent.Stops.{Stops}

-- the stops: their positions, and their ids, of which the raw one may be empty
abbrev pub stops_causes : Bounds → Stops → List Cause
stops_causes b s =
    cause 1 (Column Reals s.lat s.lat.n)
    ∷ cause 1 (Column Reals s.lon s.lat.n)
    ∷ cause 1 (Column Bytes s.positioned s.lat.n)
    ∷ cause 2 (Over s.lat.n b.stops)
    ∷ cause 3 (OffGlobe s.lat s.lon (where_set s.positioned))
    ∷ (id_causes s.own always false s.lat.n b.id
    ++ (id_causes s.raw always true s.lat.n b.id))
