-- What a journey is refused for: a refusal's number, and the fault that it is given for. Document 01 bounds no journey: legs are bounded as its tables of rows are, and a leg's
-- points as those of a shape.
use Rattle.std.specs.Prelude.{ℕ, ◌+◌, List, [], ◌∷◌}
use Rattle.verdicts.specs.Refuse.{Cause, cause, joined}
use Rattle.tables.specs.Marks.{always, where_set}
use Rattle.tables.specs.declared.bounds.Bounds.{Bounds}
use Rattle.tables.specs.declared.mark.Pool.TheVariants.{Bytes, Words, Reals}
use Rattle.faults.specs.declared.fault.Test.TheVariants.{Column, Over, Reaches, OffGlobe, EndsPast}
use Rattle.shape_rules.specs.Parts.{points_causes}
use Rattle.journey_rules.specs.declared.lent.JourneyLegs.{JourneyLegs}

-- the legs, and their points among so many
abbrev pub legs_causes : Bounds → JourneyLegs → ℕ → List Cause
legs_causes b j points =
    cause 1 (Column Bytes j.walk j.walk.n)
    ∷ cause 1 (Column Words j.first j.walk.n)
    ∷ cause 1 (Column Words j.count j.walk.n)
    ∷ cause 2 (Over j.walk.n b.others)
    ∷ cause 2 (Reaches j.count always (b.points + 1))
    ∷ cause 5 (EndsPast j.first j.count points) ∷ []

-- where walks start and end
abbrev pub ends_causes : JourneyLegs → List Cause
ends_causes j =
    cause 1 (Column Reals j.start.lat j.walk.n)
    ∷ cause 1 (Column Reals j.start.lon j.walk.n)
    ∷ cause 1 (Column Bytes j.started j.walk.n)
    ∷ cause 1 (Column Reals j.end.lat j.walk.n)
    ∷ cause 1 (Column Reals j.end.lon j.walk.n)
    ∷ cause 1 (Column Bytes j.ended j.walk.n)
    ∷ cause 3 (OffGlobe j.start.lat j.start.lon (where_set j.started))
    ∷ cause 3 (OffGlobe j.end.lat j.end.lon (where_set j.ended)) ∷ []

-- all that is lent
unfoldable pub journey_causes : Bounds → JourneyLegs → List Cause
journey_causes b j = joined (legs_causes b j j.points.lat.n ∷ ends_causes j ∷ points_causes j.points ∷ [])
