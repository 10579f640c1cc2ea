-- What an estimate may take for granted of the updates, the calls and the sailing where nothing is refused. Assumes nothing.
use Rattle.std.specs.Prelude.{Option, Some, None}
use Prim.Native.Nat.{ℕ, zero, suc, ◌<◌, ◌≤◌}
use native.Mathlib.Omega.{arith}
use mathlib.Core.Path.{◌≡◌, refl}
use mathlib.Core.Bool.{Bool, true, false, ◌||◌, cond}
use mathlib.Core.List.{List, [], ◌∷◌, map}
use lib.Dec.{le→leb}
use lib.IntN.{pos, negsuc}
use lib.ListN.{drop, get_or, length}
use lib.Signed.{◌≤ℤ◌}
use Rattle.ids.proofs.ByteOrder.{clash}
use Rattle.tables.specs.Pools.{Pools}
use Rattle.tables.specs.Bounds.{chart_bounds}
use Rattle.verdicts.specs.Refuse.{refusal_of}
use Rattle.tables.specs.Marks.{always, where_set}
use Rattle.tables.specs.declared.lent.Tables.{Tables}
use Rattle.verdicts.proofs.Facts.{Sized, all_count, counted}
use Rattle.verdicts.proofs.Passed.{clear_drop}
use Rattle.lookup_rules.proofs.Parts.{row_ids_good}
use Rattle.update_rules.specs.Parts.{updates_causes, arrivals_causes, update_departures_causes, sailing_causes}
use Rattle.update_rules.proofs.Parts.{update_stops, arrivals_between, update_departures_between, sailing_feed, now_between, offset_between}
use Rattle.checks.specs.Operations.{estimate_causes}
use Rattle.checks.proofs.Operations.{Estimate, estimate_holds}
use Rattle.matching.specs.Matching.{Ready}
use Rattle.moments.specs.Moments.{InReach}
use Rattle.lent_plans.specs.Plans.{plan_of}
use Rattle.timetable.specs.Timetable.{named_of}
use Rattle.timetable.proofs.Holds.{found_ready, in_reach}
use Rattle.calls.specs.Calls.{reported_of, call_rows, call_stops, call_arrivals, call_departures}
use Rattle.calls.specs.Calls.{Ready as CallsReady}
use Rattle.update_rows.specs.Updates.{is_set, is_timed, moment_at, moment_or}
use Rattle.update_times.specs.Times.{arrival_of, departure_of}
use Rattle.first_departures.specs.Firsts.{least_of, first_below, first_departure}
use Rattle.calls.proofs.Calls.{stops_count, call_row, call_found, call_timed}
use Rattle.sailing_rows.specs.Rows.{clock_of, offset_of}
use Rattle.sailings.specs.Sailing.{local_at, InTime}
use Rattle.estimate_facts.proofs.Columns.{set_counts, time_between, moment_most, id_short}

-- Two moments, of which one at least is set: each, and the other where it is not set, is by then where those that are set are.
either_by : (a b : Bool) (x y most : ℕ) → (a || b) ≡ true → (a ≡ true → x ≤ most) → (b ≡ true → y ≤ most) → (cond a x y ≤ most) × (cond b y x ≤ most)
either_by true true x y most e f g = (f refl, g refl)
either_by true false x y most e f g = (f refl, f refl)
either_by false true x y most e f g = (g refl, g refl)
either_by false false x y most e f g = clash (cc)

-- what is so of f of each element is so of each element of the map
map_by : (f : ℕ → ℕ) (most : ℕ) (xs : List ℕ) → ((i : ℕ) → i < length xs → f (get_or xs i 0) ≤ most) → (i : ℕ) → get_or (map f xs) i 0 ≤ most
map_by f most [] h i = omega arith
map_by f most (x ∷ xs) h zero = h 0 (omega arith)
map_by f most (x ∷ xs) h (suc i) = map_by f most xs (λ j l. h (suc j) (omega arith)) i

-- a moment, if there is one, is by then
abbrev By : ℕ → Option ℕ → Type 0
By most (Some x) = x ≤ most
By most None = Unit {0}

least_by : (most : ℕ) (m : Option ℕ) (x : ℕ) → By most m → x ≤ most → By most (least_of m x)
least_by most (Some a) x h l = omega arith
least_by most None x h l = l

module _ (p : Pools) (t : Tables) (e : refusal_of p (estimate_causes chart_bounds t) ≡ 0) where
  held : Estimate p chart_bounds t
  held = estimate_holds p chart_bounds t e

  -- what a trip is found in is in order
  pub trip_ready : Ready p.bytes p.words (named_of t) (plan_of t)
  trip_ready = found_ready p t held.lookup held.calendar

  pub updates_few : t.updates.sequence.n ≤ 256
  updates_few = (counted p (drop 6 (updates_causes chart_bounds t.updates)) (clear_drop p (updates_causes chart_bounds t.updates) held.updates 6)).0

  named_sized : Sized (length p.bytes) t.updates.named t.updates.sequence.n
  named_sized = (counted p (drop 5 (updates_causes chart_bounds t.updates)) (clear_drop p (updates_causes chart_bounds t.updates) held.updates 5)).0

  -- and so is what a stop is found in
  pub calls_ready : CallsReady p.bytes p.words (reported_of t)
  calls_ready =
      record {
        known = record {
          stop_ids = row_ids_good p chart_bounds t.stopkeys _ _ held.stop_ids (omega arith);
          trip_ids = row_ids_good p chart_bounds t.tripkeys _ _ held.lookup.trip_ids (omega arith);
        };
        feed = id_short p (sailing_feed p chart_bounds t.sailing held.sailing) 0 (omega arith) (all_count p always refl 0);
        names = λ k l s. id_short p (update_stops p chart_bounds t.updates held.updates) k l (set_counts p named_sized k l s);
      }

  -- the clock is a moment of document 01
  pub clock_bound : clock_of p.times t.sailing ≤ 4102444799
  clock_bound =
      moment_most p always (counted p (drop 14 (sailing_causes chart_bounds t.sailing)) (clear_drop p (sailing_causes chart_bounds t.sailing) held.sailing 14)).0
      (now_between p chart_bounds t.sailing held.sailing) 0 (omega arith) (all_count p always refl 0)

  -- the columns of times have a row for each update, and the offset has one
  pub arrivals_sized : t.updates.arrival.n ≡ t.updates.sequence.n
  arrivals_sized = (counted p (arrivals_causes t.updates) held.arrivals).0.many

  pub departures_sized : t.updates.departure.n ≡ t.updates.sequence.n
  departures_sized = (counted p (update_departures_causes t.updates) held.departures).0.many

  pub offset_sized : t.sailing.offset.n ≡ 1
  offset_sized = (counted p (drop 15 (sailing_causes chart_bounds t.sailing)) (clear_drop p (sailing_causes chart_bounds t.sailing) held.sailing 15)).0.many

  arrival_by : (k : ℕ) → k < t.updates.sequence.n → is_set p.bytes t.updates.arrives k ≡ true → moment_at p.times t.updates.arrival k ≤ 4102444799
  arrival_by k l s =
      let c = counted p (arrivals_causes t.updates) held.arrivals in
      moment_most p (where_set t.updates.arrives) c.0 (arrivals_between p t.updates held.arrivals) k l (set_counts p c.1.0 k l s)

  departure_by : (k : ℕ) → k < t.updates.sequence.n → is_set p.bytes t.updates.departs k ≡ true → moment_at p.times t.updates.departure k ≤ 4102444799
  departure_by k l s =
      let c = counted p (update_departures_causes t.updates) held.departures in
      moment_most p (where_set t.updates.departs) c.0 (update_departures_between p t.updates held.departures) k l (set_counts p c.1.0 k l s)

  -- so are the arrival and the departure of a row that has a time
  pub times_bound : (k : ℕ) → k < t.updates.sequence.n → is_timed p.bytes t.updates k ≡ true →
      (arrival_of p.bytes t.updates p.times k ≤ 4102444799) × (departure_of p.bytes t.updates p.times k ≤ 4102444799)
  unfolding is_timed moment_or
  times_bound k l s = either_by (is_set p.bytes t.updates.arrives k) (is_set p.bytes t.updates.departs k) _ _ 4102444799 s (arrival_by k l) (departure_by k l)

  call_bound : (i : ℕ) → i < length (call_rows p.bytes p.words (reported_of t)) →
      (arrival_of p.bytes t.updates p.times (get_or (call_rows p.bytes p.words (reported_of t)) i 0) ≤ 4102444799) ×
      (departure_of p.bytes t.updates p.times (get_or (call_rows p.bytes p.words (reported_of t)) i 0) ≤ 4102444799)
  call_bound i l =
      let m : i < length (call_stops p.bytes p.words (reported_of t)) = omega (arith, stops_count p.bytes p.words (reported_of t)) in
      times_bound _ (call_row p.bytes p.words (reported_of t) i l).0 (call_timed p.bytes p.words (reported_of t) _ _ (call_found p.bytes p.words (reported_of t) i m)).0

  -- and those of each call
  pub arrivals_bound : (i : ℕ) → get_or (call_arrivals p.bytes p.words (reported_of t) p.times) i 0 ≤ 4102444799
  unfolding call_arrivals
  arrivals_bound = map_by (arrival_of p.bytes t.updates p.times) 4102444799 (call_rows p.bytes p.words (reported_of t)) (λ i l. (call_bound i l).0)

  pub departures_bound : (i : ℕ) → get_or (call_departures p.bytes p.words (reported_of t) p.times) i 0 ≤ 4102444799
  unfolding call_departures
  departures_bound = map_by (departure_of p.bytes t.updates p.times) 4102444799 (call_rows p.bytes p.words (reported_of t)) (λ i l. (call_bound i l).1)

  first_by : (n : ℕ) → n ≤ t.updates.sequence.n → By 4102444799 (first_below p.bytes t.updates p.times n)
  unfolding first_below
  first_by zero l = tt
  first_by (suc n) l = go (is_timed p.bytes t.updates n) refl (first_by n (omega arith)) where
    go : (s : Bool) → is_timed p.bytes t.updates n ≡ s → By 4102444799 (first_below p.bytes t.updates p.times n) →
        By 4102444799 (cond s (least_of (first_below p.bytes t.updates p.times n) (departure_of p.bytes t.updates p.times n)) (first_below p.bytes t.updates p.times n))
    go true s h = least_by 4102444799 (first_below p.bytes t.updates p.times n) _ h (times_bound n (omega arith) s).1
    go false s h = h

  first_departure_by : By 4102444799 (first_departure p.bytes t.updates p.times)
  unfolding first_departure
  first_departure_by = first_by t.updates.sequence.n (omega arith)

  -- and the first departure of all, where there is one
  pub first_bound : (x : ℕ) → first_departure p.bytes t.updates p.times ≡ Some x → x ≤ 4102444799
  first_bound x f = rw f at first_departure_by

  pub first_in_time : InTime (first_departure p.bytes t.updates p.times)
  first_in_time = go (first_departure p.bytes t.updates p.times) first_departure_by where
    go : (m : Option ℕ) → By 4102444799 m → InTime m
    go (Some x) h = omega arith
    go None h = tt

  -- the offset is one of document 01
  pub offset_bounds : (negsuc 50399 ≤ℤ offset_of p.times t.sailing) × (offset_of p.times t.sailing ≤ℤ pos 50400)
  offset_bounds =
      time_between p always (counted p (drop 15 (sailing_causes chart_bounds t.sailing)) (clear_drop p (sailing_causes chart_bounds t.sailing) held.sailing 15)).0
      (offset_between p chart_bounds t.sailing held.sailing) 0 (omega arith) (all_count p always refl 0)

  -- the first departure in local time is in reach of the calendar
  pub first_in_reach : InReach (local_at (first_departure p.bytes t.updates p.times) (offset_of p.times t.sailing))
  first_in_reach = go (first_departure p.bytes t.updates p.times) first_departure_by where
    go : (m : Option ℕ) → By 4102444799 m → InReach (local_at m (offset_of p.times t.sailing))
    go (Some x) h = in_reach (pos x) (offset_of p.times t.sailing) (le→leb 0 x (omega arith)) (le→leb x 4102444799 h) offset_bounds.0.le offset_bounds.1.le
    go None h = omega arith
