-- With two clocks the voyage is the same, but for a pin that is not read. Assumes nothing.
use Rattle.std.specs.Prelude.{Option, Some, None}
use Prim.Native.Nat.{ℕ}
use mathlib.Core.Path.{◌≡◌, refl, ap, ◌∙◌}
use mathlib.Core.List.{List, []}
use lib.Ieee.{Float}
use Rattle.ids.specs.declared.pool.Span.{Span}
use Rattle.tables.specs.Pools.{Pools}
use Rattle.tables.specs.Bounds.{chart_bounds}
use Rattle.verdicts.specs.Refuse.{refusal_of}
use Rattle.tables.specs.declared.lent.Tables.{Tables}
use Rattle.checks.specs.Operations.{estimate_causes}
use Rattle.paths.specs.declared.path.End.{End}
use Rattle.calls.specs.Calls.{reported_of, update_stop, call_arrivals}
use Rattle.best_rows.specs.Serving.{best_row}
use Rattle.voyages.specs.Voyage.{Voyage}
use Rattle.voyages.specs.Outcome.{outcome_at}
use Rattle.plans.specs.Plan.{leg_between, approach_from, approach_to, pin_of, pin_at, voyage_from, voyage_of}
use Rattle.astern.specs.Clocks.{with_now, SameButClock, SameMatch}
use Rattle.astern.proofs.Pins.{pinned_to, pin_unread}
use Rattle.astern.proofs.Same.{none_mapped, rows_same, stops_same, arrivals_same, departures_same}

module _ (bytes words : List ℕ) (reals dists : List Float) (t : Tables) (now : Span) where
  approach_same : (trip before : Option ℕ) (to : End) → approach_from bytes words reals dists (with_now t now) trip before to ≡ approach_from bytes words reals dists t trip before to
  unfolding leg_between
  approach_same trip (Some row) to = refl
  approach_same trip None to = refl

  pin_of_same : (row : ℕ) (stop : Option ℕ) → pin_of words reals (with_now t now) row stop ≡ pin_of words reals t row stop
  pin_of_same row (Some stop) = refl
  pin_of_same row None = refl

  pin_same : (best : Option ℕ) → pin_at bytes words reals (with_now t now) best ≡ pin_at bytes words reals t best
  unfolding update_stop
  pin_same (Some row) = pin_of_same row (update_stop bytes words (reported_of t) row)
  pin_same None = refl

module _ {p p' : Pools} {t t' : Tables} (s : SameButClock p p' t t') where
  -- of the same calls and static trip
  from_same : (trip : Option ℕ) (rows stops arrs deps : List ℕ) →
      voyage_from p' t' trip rows stops arrs deps ≡ pinned_to (voyage_from p t trip rows stops arrs deps) (voyage_from p' t' trip rows stops arrs deps).pin
  unfolding voyage_from approach_to leg_between
  from_same trip rows stops arrs deps = rw (s.tables, s.bytes, s.words, s.reals, s.dists, approach_same p.bytes p.words p.reals p.dists t s.now) refl

  -- a row serves as a pin alike
  pin_lent : (best : Option ℕ) → pin_at p'.bytes p'.words p'.reals t' best ≡ pin_at p.bytes p.words p.reals t best
  pin_lent best = rw (s.tables, s.bytes, s.words, s.reals) (pin_same p.bytes p.words p.reals p.dists t s.now best)

  module _ (e : refusal_of p (estimate_causes chart_bounds t) ≡ 0) (m : SameMatch p p' t t') where
    -- of the tables
    voyage_same : voyage_of p' t' ≡ pinned_to (voyage_of p t) (voyage_of p' t').pin
    unfolding voyage_of
    voyage_same = rw (m.trip, rows_same s, stops_same s, arrivals_same s e, departures_same s e) (from_same _ _ _ _ _)

    -- without a call she is pinned at the row that serves best, which is the same with both clocks
    best_pin : ((voyage_of p t).arrs ≡ []) → (voyage_of p' t').pin ≡ (voyage_of p t).pin
    unfolding voyage_of voyage_from call_arrivals
    best_pin none = pin_lent (best_row p'.bytes t'.updates p'.words) ∙ ap (λ (best : Option ℕ). pin_at p.bytes p.words p.reals t best) (m.best (none_mapped _ _ none))

    -- the same comes of both at any clock
    pub outcomes_same : (clock : ℕ) → outcome_at (voyage_of p' t') clock ≡ outcome_at (voyage_of p t) clock
    outcomes_same clock = ap (λ (v : Voyage). outcome_at v clock) voyage_same ∙ pin_unread (voyage_of p t) (voyage_of p' t').pin clock best_pin
