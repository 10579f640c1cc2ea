-- Towards the first call, of what is found before it. Assumes nothing.
use Rattle.std.specs.Prelude.{Option}
use Prim.Native.Nat.{ℕ, ◌≤◌}
use mathlib.Core.Path.{◌≡◌}
use mathlib.Core.List.{List}
use borrow.Author.Tests.{le-ltb}
use lib.ListN.{get_or}
use Rattle.tables.specs.Pools.{Pools}
use Rattle.tables.specs.declared.lent.Tables.{Tables}
use Rattle.previous.specs.Before.{prev_row}
use Rattle.paths.specs.declared.path.End.{End}
use Rattle.timeline.specs.Turn.{time_at}
use Rattle.sailings.specs.Sailing.{sailing_trip}
use Rattle.voyages.specs.Outcome.{approaching, towards_at}
use Rattle.call_places.specs.Places.{call_end}
use Rattle.plans.specs.Plan.{approach_from, approach_to, voyage_from}

module _ (p : Pools) (t : Tables) (rows stops arrs deps : List ℕ) (clock : ℕ) where
  -- towards the first call, of the static stop before it
  pub towards_first : (trip before : Option ℕ) (to : End) (stop : ℕ) → clock ≤ time_at deps 0 → trip ≡ sailing_trip p.bytes p.words p.times t →
      to ≡ call_end p.words p.reals t rows stops 0 → stop ≡ get_or stops 0 0 →
      before ≡ prev_row p.bytes p.words t.trips t.times t.stops trip to.sequence stop →
      approaching (voyage_from p t trip rows stops arrs deps) clock (approach_from p.bytes p.words p.reals p.dists t trip before (call_end p.words p.reals t rows stops 0)) ≡
      towards_at (voyage_from p t (sailing_trip p.bytes p.words p.times t) rows stops arrs deps) clock
  unfolding towards_at voyage_from approach_to
  towards_first trip before to stop d f g h i = rw (i, g, h, f, le-ltb (time_at deps 0) clock d)
