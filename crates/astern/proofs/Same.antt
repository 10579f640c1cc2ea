-- The static trip, the best stop and the calls do not hang on the clock. Assumes nothing.
use Prim.Native.Nat.{ℕ, zero, suc, ◌+◌, ◌<◌, ◌≤◌}
use native.Mathlib.Omega.{arith}
use mathlib.Core.Path.{◌≡◌, refl, sym, ap, ◌∙◌}
use mathlib.Core.List.{List, [], ◌∷◌, map}
use lib.IntN.{ℤ, pos}
use lib.ListN.{length, get_or, drop}
use lib.Seq.{get_or-take, get_or-drop}
use Rattle.ids.specs.declared.pool.Span.{Span}
use Rattle.ids.proofs.ByteOrder.{clash}
use Rattle.tables.specs.Pools.{Pools, part_of}
use Rattle.tables.specs.Bounds.{chart_bounds}
use Rattle.verdicts.specs.Refuse.{refusal_of}
use Rattle.tables.specs.declared.lent.Tables.{Tables}
use Rattle.tables.specs.declared.lent.Updates.{Updates}
use Rattle.checks.specs.Operations.{estimate_causes}
use Rattle.calls.specs.Calls.{reported_of, update_stop, call_stop, call_rows, call_stops, call_arrivals, call_departures}
use Rattle.update_rows.specs.Updates.{moment_of, moment_at, moment_or}
use Rattle.update_times.specs.Times.{arrival_of, departure_of}
use Rattle.first_departures.specs.Firsts.{first_below, first_departure}
use Rattle.best_rows.specs.Serving.{best_row}
use Rattle.calls.proofs.Calls.{call_row}
use Rattle.sailing_rows.specs.Rows.{offset_of, route_of}
use Rattle.sailings.specs.Sailing.{trip_from, sailing_trip}
use Rattle.estimate_facts.proofs.Asked.{arrivals_sized, departures_sized, offset_sized}
use Rattle.astern.specs.Clocks.{SameButClock, SameMatch}

-- ---- a column of times

module _ (times times' : List ℤ) (s : Span) (same : part_of times' s ≡ part_of times s) (k : ℕ) (l : k < s.n) where
  read : (xs : List ℤ) → get_or (part_of xs s) k (pos 0) ≡ get_or xs (s.at + k) (pos 0)
  read xs = get_or-take s.n (drop s.at xs) k (pos 0) l ∙ get_or-drop s.at xs k (pos 0)

  cell_same : get_or times' (s.at + k) (pos 0) ≡ get_or times (s.at + k) (pos 0)
  cell_same = sym (read times') ∙ ap (λ (xs : List ℤ). get_or xs k (pos 0)) same ∙ read times

  moment_same : moment_at times' s k ≡ moment_at times s k
  unfolding moment_at
  moment_same = ap moment_of cell_same

map_same : (f g : ℕ → ℕ) (xs : List ℕ) → ((i : ℕ) → i < length xs → f (get_or xs i 0) ≡ g (get_or xs i 0)) → map f xs ≡ map g xs
map_same f g [] h = refl
map_same f g (x ∷ xs) h = rw (h 0 (omega arith), map_same f g xs (λ i l. h (suc i) (omega arith)))

pub none_mapped : (f : ℕ → ℕ) (xs : List ℕ) → map f xs ≡ [] → xs ≡ []
none_mapped f [] h = refl
none_mapped f (x ∷ xs) h = clash (cc)

-- ---- the updates

module _ (bytes : List ℕ) (u : Updates) (times times' : List ℤ) (arrs : part_of times' u.arrival ≡ part_of times u.arrival) (deps : part_of times' u.departure ≡ part_of times u.departure)
    (many : u.arrival.n ≡ u.sequence.n) (many' : u.departure.n ≡ u.sequence.n) where
  module _ (k : ℕ) (l : k < u.sequence.n) where
    arrives : moment_at times' u.arrival k ≡ moment_at times u.arrival k
    arrives = moment_same times times' u.arrival arrs k (omega arith)

    departs : moment_at times' u.departure k ≡ moment_at times u.departure k
    departs = moment_same times times' u.departure deps k (omega arith)

    arrival_same : arrival_of bytes u times' k ≡ arrival_of bytes u times k
    unfolding moment_or
    arrival_same = rw (arrives, departs)

    departure_same : departure_of bytes u times' k ≡ departure_of bytes u times k
    unfolding moment_or
    departure_same = rw (arrives, departs)

  first_below_same : (n : ℕ) → n ≤ u.sequence.n → first_below bytes u times' n ≡ first_below bytes u times n
  unfolding first_below
  first_below_same zero l = refl
  first_below_same (suc n) l = rw (first_below_same n (omega arith), departure_same n (omega arith))

  first_same : first_departure bytes u times' ≡ first_departure bytes u times
  unfolding first_departure
  first_same = first_below_same u.sequence.n (omega arith)

-- ---- what is lent with two clocks

module _ {p p' : Pools} {t t' : Tables} (s : SameButClock p p' t t') where
  -- the rows of the calls, and their stops
  pub rows_same : call_rows p'.bytes p'.words (reported_of t') ≡ call_rows p.bytes p.words (reported_of t)
  unfolding call_rows call_stop update_stop
  rows_same = rw (s.tables, s.bytes, s.words)

  pub stops_same : call_stops p'.bytes p'.words (reported_of t') ≡ call_stops p.bytes p.words (reported_of t)
  unfolding call_stops call_rows call_stop update_stop
  stops_same = rw (s.tables, s.bytes, s.words)

  -- the best stop
  pub best_same : best_row p'.bytes t'.updates p'.words ≡ best_row p.bytes t.updates p.words
  best_same = rw (s.tables, s.bytes, s.words)

  module _ (e : refusal_of p (estimate_causes chart_bounds t) ≡ 0) where
    -- their moments
    pub arrivals_same : call_arrivals p'.bytes p'.words (reported_of t') p'.times ≡ call_arrivals p.bytes p.words (reported_of t) p.times
    unfolding call_arrivals
    arrivals_same =
        rw (rows_same, s.tables, s.bytes)
        (map_same _ _ (call_rows p.bytes p.words (reported_of t))
        (λ i l. arrival_same p.bytes t.updates p.times p'.times s.arrivals s.departures (arrivals_sized p t e) (departures_sized p t e) _ (call_row p.bytes p.words (reported_of t) i l).0))

    pub departures_same : call_departures p'.bytes p'.words (reported_of t') p'.times ≡ call_departures p.bytes p.words (reported_of t) p.times
    unfolding call_departures
    departures_same =
        rw (rows_same, s.tables, s.bytes)
        (map_same _ _ (call_rows p.bytes p.words (reported_of t))
        (λ i l. departure_same p.bytes t.updates p.times p'.times s.arrivals s.departures (arrivals_sized p t e) (departures_sized p t e) _ (call_row p.bytes p.words (reported_of t) i l).0))

    first_departure_same : first_departure p.bytes t.updates p'.times ≡ first_departure p.bytes t.updates p.times
    first_departure_same = first_same p.bytes t.updates p.times p'.times s.arrivals s.departures (arrivals_sized p t e) (departures_sized p t e)

    offset_same : offset_of p'.times t.sailing ≡ offset_of p.times t.sailing
    offset_same = cell_same p.times p'.times t.sailing.offset s.offset 0 (omega (arith, offset_sized p t e))

    -- the static trip
    pub trip_same : sailing_trip p'.bytes p'.words p'.times t' ≡ sailing_trip p.bytes p.words p.times t
    unfolding sailing_trip trip_from route_of
    trip_same = rw (s.tables, s.bytes, s.words, first_departure_same, offset_same)

    -- so two clocks always match the same, and have one best stop
    pub always_matched : SameMatch p p' t t'
    always_matched = record { trip = trip_same; best = λ h. best_same }
