-- The trip that the row of a journey stands for.
use Rattle.std.specs.Prelude.{ℕ, List, ℤ, Option}
use Rattle.ids.specs.Pool.{id_of}
use Rattle.tables.specs.declared.lent.Journey.{Journey}
use Rattle.tables.specs.declared.lent.Tables.{Tables}
use Rattle.lent_plans.specs.Plans.{plan_of}
use Rattle.matching.specs.Matching.{match_of}
use Rattle.moments.specs.Moments.{today_of, yesterday_of}
use Rattle.matching.specs.declared.whole.Named.{Named}
use Rattle.asked_journey.specs.Journeys.{route_of, departs_of, local_of}

-- the tables that a trip is found in by its id
abbrev pub named_of : Tables → Named
named_of t = record { tripkeys = t.tripkeys; aliases = t.aliases }

-- the trip that the journey's row stands for
unfoldable pub journey_trip : List ℕ → List ℕ → List ℤ → Tables → Journey → Option ℕ
journey_trip bytes words times t j =
    let at = local_of bytes times j in
    match_of bytes words (named_of t) (plan_of t) (id_of bytes words j.key 0) (route_of bytes words j) (departs_of bytes j) (today_of at) (yesterday_of at)
