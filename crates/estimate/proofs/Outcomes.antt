-- What an estimate comes to, of what its callees ensure. Assumes nothing.
use Rattle.std.specs.Prelude.{Some, None}
use Prim.Native.Nat.{ℕ}
use mathlib.Core.Path.{◌≡◌, sym, ap, ◌∙◌}
use mathlib.Core.Bool.{true, false}
use mathlib.Core.List.{List, ◌++◌, map}
use borrow.Author.Tests.{eq-eqb, ne_eqb}
use lib.ListN.{length, take, drop, length-map}
use lib.Seq.{take-append_seam}
use Rattle.tables.specs.Pools.{Pools}
use Rattle.tables.specs.declared.lent.Tables.{Tables}
use Rattle.timeline.specs.Turn.{turn_of}
use Rattle.calls.specs.Calls.{reported_of, call_rows, call_stops, call_arrivals, call_departures}
use Rattle.update_times.specs.Times.{arrival_of, departure_of}
use Rattle.best_rows.specs.Serving.{best_row}
use Rattle.sailing_rows.specs.Rows.{is_cancelled, clock_of}
use Rattle.sailings.specs.Sailing.{sailing_trip}
use Rattle.voyages.specs.Outcome.{at_pin, at_turn, outcome_at}
use Rattle.plans.specs.Plan.{pin_at, voyage_from, voyage_of}
use Rattle.estimate.specs.Answers.{called_of}

-- what was written first, of all that is there
pub first_written : (n : ℕ) (xs rest all : List ℕ) → all ≡ xs ++ rest → n ≡ length xs → take n all ≡ xs
first_written n xs rest all f e = rw (f, e) (take-append_seam xs rest)

-- a column of what f gives of each row
column_written : (f : ℕ → ℕ) (rows calls out all : List ℕ) → rows ≡ calls → all ≡ map f rows ++ drop (length rows) out → take (length rows) all ≡ map f calls
column_written f rows calls out all e g = first_written (length rows) (map f rows) (drop (length rows) out) all g (sym (length-map rows f)) ∙ ap (map f) e

module _ (p : Pools) (t : Tables) (rows stops arrs deps : List ℕ) (clock : ℕ) where
  -- with the calls of the tables
  pub called_is : rows ≡ call_rows p.bytes p.words (reported_of t) → stops ≡ call_stops p.bytes p.words (reported_of t) →
      arrs ≡ call_arrivals p.bytes p.words (reported_of t) p.times → deps ≡ call_departures p.bytes p.words (reported_of t) p.times → clock ≡ clock_of p.times t.sailing →
      at_turn (voyage_from p t (sailing_trip p.bytes p.words p.times t) rows stops arrs deps) clock (turn_of clock arrs deps) ≡ called_of p t
  unfolding called_of voyage_of voyage_from
  called_is f g h i j = rw (f, g, h, i, j)

module _ (p : Pools) (t : Tables) where
  -- the arrivals and the departures of the calls, as they were written
  module _ (rows out all : List ℕ) (f : rows ≡ call_rows p.bytes p.words (reported_of t)) where
    pub arrivals_written : all ≡ map (arrival_of p.bytes t.updates p.times) rows ++ drop (length rows) out → take (length rows) all ≡ call_arrivals p.bytes p.words (reported_of t) p.times
    unfolding call_arrivals
    arrivals_written = column_written (arrival_of p.bytes t.updates p.times) rows _ out all f

    pub departures_written : all ≡ map (departure_of p.bytes t.updates p.times) rows ++ drop (length rows) out → take (length rows) all ≡ call_departures p.bytes p.words (reported_of t) p.times
    unfolding call_departures
    departures_written = column_written (departure_of p.bytes t.updates p.times) rows _ out all f

  -- each call has an arrival
  arrivals_count : length (call_arrivals p.bytes p.words (reported_of t) p.times) ≡ length (call_rows p.bytes p.words (reported_of t))
  unfolding call_arrivals
  arrivals_count = length-map (call_rows p.bytes p.words (reported_of t)) (arrival_of p.bytes t.updates p.times)

  -- cancelled; without a call; with one
  pub outcome_cancelled : is_cancelled p.bytes t.sailing ≡ true → None ≡ outcome_at (voyage_of p t) (clock_of p.times t.sailing)
  unfolding outcome_at voyage_of voyage_from
  outcome_cancelled c = rw c

  pub outcome_pinned : is_cancelled p.bytes t.sailing ≡ false → (n : ℕ) → n ≡ length (call_rows p.bytes p.words (reported_of t)) → n ≡ 0 →
      at_pin (pin_at p.bytes p.words p.reals t (best_row p.bytes t.updates p.words)) ≡ outcome_at (voyage_of p t) (clock_of p.times t.sailing)
  unfolding outcome_at voyage_of voyage_from
  outcome_pinned c n f e = rw (c, arrivals_count, eq-eqb (length (call_rows p.bytes p.words (reported_of t))) 0 (sym f ∙ e))

  pub outcome_called : is_cancelled p.bytes t.sailing ≡ false → (n : ℕ) → n ≡ length (call_rows p.bytes p.words (reported_of t)) → (n ≡ 0 → ⊥) →
      Some (called_of p t) ≡ outcome_at (voyage_of p t) (clock_of p.times t.sailing)
  unfolding outcome_at voyage_of voyage_from called_of
  outcome_called c n f e = rw (c, arrivals_count, ne_eqb (length (call_rows p.bytes p.words (reported_of t))) 0 (λ g. e (f ∙ g)))
