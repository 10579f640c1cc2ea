-- Document 01's case meets every hypothesis of demand 3, and its places at 100 and at 250 differ: by computing the definitions.
use Rattle.std.specs.Prelude.{Option, Some, None}
use Prim.Native.Nat.{ℕ, zero, suc, ◌+◌, ◌<◌, ◌≤◌}
use native.Mathlib.Omega.{arith}
use mathlib.Core.Path.{◌≡◌, refl}
use mathlib.Core.List.{List, [], ◌∷◌}
use lib.Ieee.{Float, of_int, le, neg, add, sub, mul, div}
use lib.ListN.{length}
use Rattle.ids.specs.Cmp.{cmp, equal}
use Rattle.ids.specs.First.{first}
use Rattle.ids.specs.Pool.{id_of}
use Rattle.ids.specs.Rows.{row_of}
use Rattle.ids.proofs.ByteOrder.{clash}
use Rattle.refusals.specs.Answer.{given}
use Rattle.globe.specs.Globe.{on_globe, within}
use Rattle.columns.specs.Number.{reaches_at, ends_past_at, beyond, outside_at}
use Rattle.column_floats.specs.Real.{off_globe_at}
use Rattle.columns.specs.Rows.{some, counts, among, bit_of}
use Rattle.column_ids.specs.Text.{bad_byte_at, bad_text, bad_id, bad_id_at}
use Rattle.column_order.specs.Order.{parts_of, cmp_parts, cmp_rows, out_of_order_at}
use Rattle.tables.specs.Pools.{Pools}
use Rattle.tables.specs.Bounds.{chart_bounds}
use Rattle.faults.specs.Fault.{fails_of}
use Rattle.verdicts.specs.Refuse.{refusal_of, least_of, joined}
use Rattle.tables.specs.declared.lent.Tables.{Tables}
use Rattle.geometry_checks.specs.Operations.{geometry_causes}
use Rattle.checks.specs.Operations.{estimate_causes, trip_lookup_causes, calendar_tables_causes}
use Rattle.paths.specs.declared.path.End.{End}
use Rattle.stop_rows.specs.Rows.{is_positioned}
use Rattle.stop_keys.specs.Names.{text_keys, stop_keys, stop_at, first_stop, named_stop}
use Rattle.stop_ids.specs.Stops.{stop_of}
use Rattle.calls.specs.Calls.{reported_of, update_stop, call_stop, call_rows, call_stops, call_arrivals, call_departures}
use Rattle.row_lists.specs.Rows.{passing}
use Rattle.update_rows.specs.Updates.{moment_at, moment_or, is_set, is_timed}
use Rattle.sailings.specs.Sailing.{sailing_trip}
use Rattle.ieee.specs.Number.{clamp01_of}
use Rattle.stretches.specs.Drawing.{between_of}
use Rattle.legs.specs.Walk.{walk_of}
use Rattle.trip_rows.specs.Rows.{stop_point}
use Rattle.fractions.specs.Fraction.{leg_fraction}
use Rattle.timeline.specs.Turn.{time_at, during, turn_of}
use Rattle.timeline_order.specs.Order.{Timely}
use Rattle.estimate_facts.proofs.Trips.{sailing_trip_is}
use Rattle.voyages.specs.Record.{at_stop}
use Rattle.voyages.specs.Outcome.{under_way_at, outcome_at}
use Rattle.plans.specs.Plan.{leg_between, approach_to, voyage_from, voyage_of}
use Rattle.estimate.specs.Answers.{estimate_of}
use Rattle.astern.specs.Clocks.{SameButClock, GrantedLeg, GrantedApproach, GrantedVoyage}
use Rattle.witness.specs.Case.{case_at, case_tables, at_hundred, at_two_hundred_fifty, Witness}
use Rattle.witness.proofs.East.{bearing_is}
use Rattle.astern.proofs.Same.{always_matched}

-- nothing is refused at either clock
accepted_earlier : refusal_of (case_at 100) (estimate_causes chart_bounds case_tables) ≡ 0
unfolding estimate_causes geometry_causes trip_lookup_causes calendar_tables_causes joined least_of fails_of some counts among reaches_at ends_past_at beyond outside_at off_globe_at on_globe within neg of_int bad_byte_at bad_text bad_id bad_id_at out_of_order_at cmp_rows cmp_parts parts_of bit_of id_of cmp le
accepted_earlier = refl

accepted_later : refusal_of (case_at 250) (estimate_causes chart_bounds case_tables) ≡ 0
unfolding estimate_causes geometry_causes trip_lookup_causes calendar_tables_causes joined least_of fails_of some counts among reaches_at ends_past_at beyond outside_at off_globe_at on_globe within neg of_int bad_byte_at bad_text bad_id bad_id_at out_of_order_at cmp_rows cmp_parts parts_of bit_of id_of cmp le
accepted_later = refl

-- the case has no static trip, so none is matched
no_trip : (p : Pools) → refusal_of p (estimate_causes chart_bounds case_tables) ≡ 0 → sailing_trip p.bytes p.words p.times case_tables ≡ None
no_trip p e = go (sailing_trip p.bytes p.words p.times case_tables) refl
  where
    go : (trip : Option ℕ) → sailing_trip p.bytes p.words p.times case_tables ≡ trip → trip ≡ None
    go (Some k) f = absurd (omega (arith, sailing_trip_is p case_tables e k f))
    go None f = refl

-- a leg of no trip is straight, and none leads to the first call
module _ (bytes words : List ℕ) (reals dists : List Float) (t : Tables) where
  straight_granted : (trip : Option ℕ) → trip ≡ None → (from to : End) → GrantedLeg (leg_between bytes words reals dists t trip from to)
  unfolding leg_between
  straight_granted (Some k) e from to = clash (cc)
  straight_granted None e from to = record { lengths = tt; distances = tt }

  approach_granted : (trip : Option ℕ) → trip ≡ None → (to : End) (stop : ℕ) → GrantedApproach (approach_to bytes words reals dists t trip to stop)
  unfolding approach_to
  approach_granted (Some k) e to stop = clash (cc)
  approach_granted None e to stop = tt

-- the calls
module _ (clock : ℕ) where
  rows : call_rows (case_at clock).bytes (case_at clock).words (reported_of case_tables) ≡ 0 ∷ 1 ∷ []
  unfolding call_rows call_stop update_stop passing is_timed is_set bit_of stop_of named_stop first_stop stop_at stop_keys text_keys id_of row_of cmp is_positioned first equal
  rows = refl

  stops : call_stops (case_at clock).bytes (case_at clock).words (reported_of case_tables) ≡ 0 ∷ 1 ∷ []
  unfolding call_stops call_stop update_stop is_timed is_set bit_of stop_of named_stop first_stop stop_at stop_keys text_keys id_of row_of cmp is_positioned first equal
  stops = rw rows refl

  arrivals : call_arrivals (case_at clock).bytes (case_at clock).words (reported_of case_tables) (case_at clock).times ≡ 100 ∷ 400 ∷ []
  unfolding call_arrivals moment_or is_set bit_of moment_at
  arrivals = rw rows refl

  departures : call_departures (case_at clock).bytes (case_at clock).words (reported_of case_tables) (case_at clock).times ≡ 100 ∷ 400 ∷ []
  unfolding call_departures moment_or is_set bit_of moment_at
  departures = rw rows refl

timely : Timely (100 ∷ 400 ∷ []) (100 ∷ 400 ∷ [])
timely = record { calls = λ k l. omega arith; legs = legs }
  where
    legs : (k : ℕ) → k + 1 < 2 → time_at (100 ∷ 400 ∷ []) k ≤ time_at (100 ∷ 400 ∷ []) (k + 1)
    legs zero l = omega arith
    legs (suc k) l = absurd (omega arith)

granted : GrantedVoyage (voyage_of (case_at 100) case_tables)
unfolding voyage_of voyage_from
granted =
    record {
      times = rw (arrivals 100, departures 100) timely;
      legs = λ k l. straight_granted _ _ _ _ _ _ (no_trip (case_at 100) accepted_earlier) _ _;
      approach = approach_granted _ _ _ _ _ _ (no_trip (case_at 100) accepted_earlier) _ _;
    }

lent : SameButClock (case_at 100) (case_at 250) case_tables case_tables
lent = record { now = case_tables.sailing.now; tables = refl; bytes = refl; words = refl; reals = refl; dists = refl; arrivals = refl; departures = refl; offset = refl }

-- the voyage at either clock
voyage : (clock : ℕ) → refusal_of (case_at clock) (estimate_causes chart_bounds case_tables) ≡ 0 →
    voyage_of (case_at clock) case_tables ≡ voyage_from (case_at clock) case_tables None (0 ∷ 1 ∷ []) (0 ∷ 1 ∷ []) (100 ∷ 400 ∷ []) (100 ∷ 400 ∷ [])
unfolding voyage_of
voyage clock e = rw (no_trip (case_at clock) e, stops clock, rows clock, arrivals clock, departures clock) refl

at_hundred_lem : outcome_at (voyage_from (case_at 100) case_tables None (0 ∷ 1 ∷ []) (0 ∷ 1 ∷ []) (100 ∷ 400 ∷ []) (100 ∷ 400 ∷ [])) 100 ≡ at_hundred
unfolding outcome_at voyage_from is_set bit_of turn_of first during at_stop stop_point
at_hundred_lem = refl

at_two_hundred_fifty_lem : outcome_at (voyage_from (case_at 250) case_tables None (0 ∷ 1 ∷ []) (0 ∷ 1 ∷ []) (100 ∷ 400 ∷ []) (100 ∷ 400 ∷ [])) 250 ≡ at_two_hundred_fifty
unfolding outcome_at voyage_from leg_between is_set bit_of turn_of first during under_way_at walk_of leg_fraction clamp01_of stop_point between_of le add sub mul div of_int
at_two_hundred_fifty_lem = rw bearing_is refl

earlier : estimate_of (case_at 100) case_tables ≡ given at_hundred
unfolding estimate_of moment_at
earlier = rw (accepted_earlier, voyage 100 accepted_earlier, at_hundred_lem) refl

later : estimate_of (case_at 250) case_tables ≡ given at_two_hundred_fifty
unfolding estimate_of moment_at
later = rw (accepted_later, voyage 250 accepted_later, at_two_hundred_fifty_lem) refl

pub witness : Witness
witness = record { hypotheses = record { lent = lent; match = always_matched lent accepted_earlier; voyage = granted }; earlier = earlier; later = later }
