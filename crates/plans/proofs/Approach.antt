-- On a leg: what its parts come to. Assumes nothing.
use Rattle.std.specs.Prelude.{Option, Some}
use Prim.Native.Nat.{ℕ, suc, ◌+◌}
use mathlib.Core.Path.{◌≡◌}
use mathlib.Core.List.{List}
use lib.Ieee.{Float}
use lib.ListN.{get_or}
use Rattle.tables.specs.Pools.{Pools}
use Rattle.tables.specs.declared.lent.Tables.{Tables}
use Rattle.scheduled_runs.specs.Run.{run_of}
use Rattle.timeline.specs.Turn.{time_at}
use Rattle.fractions.specs.Fraction.{approach_fraction, leg_fraction}
use Rattle.paths.specs.declared.path.End.{End}
use Rattle.paths.specs.declared.status.Status.{Status}
use Rattle.legs.specs.declared.walk.Walked.{Walked}
use Rattle.voyages.specs.Record.{on_leg}
use Rattle.voyages.specs.Outcome.{walk_leg, approach_status, approaching, under_way_at}
use Rattle.voyages.specs.declared.record.Placed.{Placed}
use Rattle.call_places.specs.Places.{call_end}
use Rattle.plans.specs.Plan.{row_end, leg_between, approach_from, voyage_from}

-- to the first call, from a row of the stop times
pub approach_is : (p : Pools) (t : Tables) (trip : Option ℕ) (rows stops arrs deps : List ℕ) (clock row : ℕ)
    {from to : End} {run arr stop : ℕ} {frac : Float} {walked : Walked} {status : Status} {r : Placed} →
    from ≡ row_end p.words p.reals t row → to ≡ call_end p.words p.reals t rows stops 0 →
    run ≡ run_of p.words t.trips t.times trip from.sequence to.sequence → arr ≡ time_at arrs 0 → frac ≡ approach_fraction clock arr run →
    walked ≡ walk_leg 1 (leg_between p.bytes p.words p.reals p.dists t trip from to) frac → status ≡ approach_status frac walked →
    stop ≡ get_or stops 0 0 → r ≡ on_leg walked status stop to.sequence →
    r ≡ approaching (voyage_from p t trip rows stops arrs deps) clock
    (approach_from p.bytes p.words p.reals p.dists t trip (Some row) (call_end p.words p.reals t rows stops 0))
unfolding voyage_from
approach_is p t trip rows stops arrs deps clock row a b c d e f g h i = rw (i, h, g, f, e, d, c, b, a)

-- on the leg from call k to the next
pub under_way_is : (p : Pools) (t : Tables) (trip : Option ℕ) (rows stops arrs deps : List ℕ) (clock k : ℕ)
    {from to : End} {dep arr stop number : ℕ} {frac : Float} {walked : Walked} {r : Placed} →
    number ≡ suc (suc k) → from ≡ call_end p.words p.reals t rows stops k → to ≡ call_end p.words p.reals t rows stops (k + 1) →
    dep ≡ time_at deps k → arr ≡ time_at arrs (k + 1) → frac ≡ leg_fraction clock dep arr →
    walked ≡ walk_leg number (leg_between p.bytes p.words p.reals p.dists t trip from to) frac →
    stop ≡ get_or stops (k + 1) 0 → r ≡ on_leg walked walked.status stop to.sequence →
    r ≡ under_way_at (voyage_from p t trip rows stops arrs deps) clock k
unfolding voyage_from under_way_at
under_way_is p t trip rows stops arrs deps clock k a b c d e f g h i = rw (i, h, g, f, e, d, c, b, a)
