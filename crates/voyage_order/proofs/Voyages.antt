-- The outcomes of a voyage at two clocks: the later is not astern of the earlier. Assumes nothing.
use Rattle.std.specs.Prelude.{Some, None}
use Prim.Native.Nat.{ℕ, zero, suc, ◌+◌, ◌-◌, ◌*◌, ◌<◌, ◌≤◌, ◌^◌}
use native.Mathlib.Nat.{eq-or-lt_of_le}
use native.Mathlib.Omega.{arith}
use mathlib.Core.Path.{◌≡◌, refl, sym}
use mathlib.Core.Logic.{◌⊎◌, inl, inr, ⊎_elim}
use mathlib.Core.Bool.{Bool, true, false, cond}
use mathlib.Core.List.{List}
use borrow.Author.Tests.{lt-ltb, le-ltb}
use lib.Dec.{T, eqb, ltb}
use lib.Ieee.{Float, le, binary64, fits}
use lib.ListN.{length}
use Rattle.floats.proofs.Signed.{le_or_lt}
use Rattle.ids.proofs.ByteOrder.{clash}
use Rattle.leg_order.specs.Order.{NoEarlier, turn_of}
use Rattle.legs.specs.declared.place.Place.{Place}
use Rattle.legs.specs.declared.place.Place.TheVariants.{Call}
use Rattle.paths.specs.declared.status.Status.{Status}
use Rattle.paths.specs.declared.status.Status.TheVariants.{StoppedAt, IncomingAt, InTransitTo}
use Rattle.timeline.specs.Turn.{time_at}
use Rattle.timeline.specs.Turn.{turn_of as clock_turn}
use Rattle.fractions.specs.Fraction.{leg_fraction, approach_fraction}
use Rattle.timeline.specs.declared.turn.Turn.{Turn}
use Rattle.timeline.specs.declared.turn.Turn.TheVariants.{At, Between, Towards, After}
use Rattle.timeline_order.specs.Order.{Timely}
use Rattle.timeline_order.proofs.Fractions.{leg_fraction-fits, leg_fraction_order, approach_fraction-fits, approach_fraction_order}
use Rattle.timeline_order.proofs.Says.{SaysTimely, arrivals_mono, departures_mono, turn_says_timely}
use Rattle.voyages.specs.Record.{at_stop, on_leg}
use Rattle.voyages.specs.Voyage.{Leg, Approach, none, over, Pin, unplaced, pinned, Voyage}
use Rattle.voyages.specs.Outcome.{walk_leg, at_call, under_way_at, approaching, approach_status, towards_at, at_turn, at_pin, outcome_at}
use Rattle.voyages.specs.declared.record.Placed.{Placed}
use Rattle.voyage_order.specs.Astern.{NotAstern, Ordered, OrderedApproach, Steady}
use Rattle.leg_order.proofs.Turns.{walk_turn}

-- ---- turns of places

-- the second's place is no earlier than the first's
abbrev Onward : Placed → Placed → Type 0
Onward a b = NoEarlier a.place b.place

-- the place has this turn
abbrev HasTurn : Placed → ℕ → Type 0
HasTurn a m = turn_of a.place ≡ m

-- an earlier turn is no later a place
strict : (a b : Placed) (m n : ℕ) → HasTurn a m → HasTurn b n → m < n → Onward a b
strict a b m n t t' h = inl (rw (t, t') h)

turn_of_lem : (k : ℕ) (leg : Leg) (f : Float) → turn_of (walk_leg k leg f).place ≡ 2 * k - 1
turn_of_lem k leg f = walk_turn k leg.shape leg.chain leg.from leg.to leg.path f

module _ (v : Voyage) where
  call_turn : (k : ℕ) (status : Status) → HasTurn (at_call v k status) (2 * suc k)
  unfolding at_stop
  call_turn k status = refl

  leg_turn : (clock k : ℕ) → HasTurn (under_way_at v clock k) (2 * suc (suc k) - 1)
  unfolding under_way_at
  leg_turn clock k = turn_of_lem (suc (suc k)) (v.leg k) (leg_fraction clock (time_at v.deps k) (time_at v.arrs (k + 1)))

  approach_turn : (clock : ℕ) (leg : Leg) (run : ℕ) → HasTurn (approaching v clock (over leg run)) 1
  approach_turn clock leg run = turn_of_lem 1 leg (approach_fraction clock (time_at v.arrs 0) run)

  -- at a call, and at the same or a later one
  calls : (k j : ℕ) → k ≤ j → (a b : Status) → Onward (at_call v k a) (at_call v j b)
  unfolding at_stop
  calls k j h a b = ⊎_elim (λ (e : k ≡ j). inr (omega arith, tt)) (λ l. inl (omega arith)) (eq-or-lt_of_le h)

  -- ---- towards the first call
  gone : (clock : ℕ) → time_at v.deps 0 < clock → towards_at v clock ≡ at_call v 0 InTransitTo
  unfolding towards_at
  gone clock h = rw (lt-ltb (time_at v.deps 0) clock h)

  still : (clock : ℕ) → clock ≤ time_at v.deps 0 → towards_at v clock ≡ approaching v clock v.approach
  unfolding towards_at
  still clock h = rw (le-ltb (time_at v.deps 0) clock h)

-- ---- two clocks
module _ (v : Voyage) (steady : Steady v) (some : 1 ≤ length v.arrs) (first_bound : time_at v.arrs 0 < 4294967296) (c c' : ℕ) (h : c ≤ c') (clock_bound : c' < 4294967296) where
  abbrev arrs : List ℕ
  arrs = v.arrs

  abbrev deps : List ℕ
  deps = v.deps

  timely : Timely arrs deps
  timely = steady.timely

  -- no later than the departure from the first call, where the clock has not come to its arrival
  ahead : (clock : ℕ) → clock < time_at arrs 0 → clock ≤ time_at deps 0
  ahead clock l = omega (arith, timely.calls 0 some)

  -- both on one leg
  on_leg_lem : (k : ℕ) → k + 1 < length arrs → Onward (under_way_at v c k) (under_way_at v c' k)
  unfolding under_way_at
  on_leg_lem k l =
      steady.legs k l (leg_fraction c (time_at deps k) (time_at arrs (k + 1))) (leg_fraction c' (time_at deps k) (time_at arrs (k + 1)))
      (leg_fraction-fits c (time_at deps k) (time_at arrs (k + 1))) (leg_fraction-fits c' (time_at deps k) (time_at arrs (k + 1)))
      (leg_fraction_order c c' (time_at deps k) (time_at arrs (k + 1)) clock_bound h)

  -- both towards the first call
  on_approach : (a : Approach) → OrderedApproach a → Onward (approaching v c a) (approaching v c' a)
  on_approach none o = calls v 0 0 (omega arith) IncomingAt IncomingAt
  on_approach (over leg run) o =
      o (approach_fraction c (time_at arrs 0) run) (approach_fraction c' (time_at arrs 0) run) (approach_fraction-fits c (time_at arrs 0) run)
      (approach_fraction-fits c' (time_at arrs 0) run) (approach_fraction_order c c' (time_at arrs 0) run first_bound h)

  -- towards the first call, and at a call or on a leg after it
  approach_call : (a : Approach) (k : ℕ) (status : Status) → Onward (approaching v c a) (at_call v k status)
  approach_call none k status = calls v 0 k (omega arith) IncomingAt status
  approach_call (over leg run) k status = strict (approaching v c (over leg run)) (at_call v k status) 1 (2 * suc k) (approach_turn v c leg run) (call_turn v k status) (omega arith)

  approach_leg : (a : Approach) (k : ℕ) → Onward (approaching v c a) (under_way_at v c' k)
  approach_leg none k = strict (at_call v 0 IncomingAt) (under_way_at v c' k) 2 (2 * suc (suc k) - 1) (call_turn v 0 IncomingAt) (leg_turn v c' k) (omega arith)
  approach_leg (over leg run) k =
      strict (approaching v c (over leg run)) (under_way_at v c' k) 1 (2 * suc (suc k) - 1) (approach_turn v c leg run) (leg_turn v c' k) (omega arith)

  turns : (t t' : Turn) → SaysTimely c arrs deps t → SaysTimely c' arrs deps t' → Onward (at_turn v c t) (at_turn v c' t')
  turns (At k) (At j) s s' =
      ⊎_elim (λ l. calls v k j l StoppedAt StoppedAt) (λ (l : j < k). absurd (omega (arith, s.3 j l, s'.2))) (le_or_lt k j)
  turns (At k) (Between j) s s' =
      ⊎_elim (λ (l : k ≤ j). strict (at_call v k StoppedAt) (under_way_at v c' j) (2 * suc k) (2 * suc (suc j) - 1) (call_turn v k StoppedAt) (leg_turn v c' j) (omega arith))
      (λ (l : j < k). absurd (omega (arith, arrivals_mono arrs deps timely (j + 1) k (omega arith) s.0, s.1, s'.2))) (le_or_lt k j)
  turns (At k) Towards s s' =
      ⊎_elim (λ l. absurd (omega (arith, arrivals_mono arrs deps timely 0 k (omega arith) s.0, s.1)))
      (λ l. rw (gone v c' l.1) (calls v k 0 (omega (arith, s.0, l.0)) StoppedAt InTransitTo)) (s' some)
  turns (At k) After s s' = calls v k (length arrs - 1) (omega (arith, s.0)) StoppedAt StoppedAt
  turns (Between k) (At j) s s' =
      ⊎_elim (λ (l : j ≤ k). absurd (omega (arith, departures_mono arrs deps timely j k l (omega (arith, s.0)), s.1, s'.2)))
      (λ (l : k < j). strict (under_way_at v c k) (at_call v j StoppedAt) (2 * suc (suc k) - 1) (2 * suc j) (leg_turn v c k) (call_turn v j StoppedAt) (omega arith)) (le_or_lt j k)
  turns (Between k) (Between j) s s' =
      ⊎_elim
      (λ (l : k ≤ j).
      ⊎_elim (λ (e : k ≡ j). rw e (on_leg_lem j s'.0))
      (λ m. strict (under_way_at v c k) (under_way_at v c' j) (2 * suc (suc k) - 1) (2 * suc (suc j) - 1) (leg_turn v c k) (leg_turn v c' j) (omega arith)) (eq-or-lt_of_le l))
      (λ (l : j < k).
      absurd (omega (arith, arrivals_mono arrs deps timely (j + 1) k (omega arith) (omega (arith, s.0)), timely.calls k (omega (arith, s.0)), s.1, s'.2))) (le_or_lt k j)
  turns (Between k) Towards s s' =
      ⊎_elim
      (λ l. absurd (omega (arith, arrivals_mono arrs deps timely 0 k (omega arith) (omega (arith, s.0)), timely.calls k (omega (arith, s.0)), s.1)))
      (λ l. absurd (omega (arith, s.0, l.0))) (s' some)
  turns (Between k) After s s' =
      strict (under_way_at v c k) (at_call v (length arrs - 1) StoppedAt) (2 * suc (suc k) - 1) (2 * suc (length arrs - 1)) (leg_turn v c k) (call_turn v (length arrs - 1) StoppedAt) (omega (arith, s.0))
  turns Towards (At j) s s' =
      ⊎_elim (λ l. rw (still v c (ahead c l)) (approach_call v.approach j StoppedAt))
      (λ l. absurd (omega (arith, departures_mono arrs deps timely 0 0 (omega arith) some, first_only j s'.0 l.0 s'.2, l.1))) (s some)
    where
      first_only : (j : ℕ) → j < length arrs → length arrs ≡ 1 → c' ≤ time_at deps j → c' ≤ time_at deps 0
      first_only zero l e m = m
      first_only (suc j) l e m = absurd (omega arith)
  turns Towards (Between j) s s' =
      ⊎_elim (λ l. rw (still v c (ahead c l)) (approach_leg v.approach j)) (λ l. absurd (omega (arith, s'.0, l.0))) (s some)
  turns Towards Towards s s' = ⊎_elim before after (s some)
    where
      before : c < time_at arrs 0 → Onward (towards_at v c) (towards_at v c')
      before l =
          ⊎_elim (λ m. rw (still v c (ahead c l), still v c' (ahead c' m)) (on_approach v.approach steady.first))
          (λ m. rw (still v c (ahead c l), gone v c' m.1) (approach_call v.approach 0 InTransitTo)) (s' some)

      after : (length arrs ≡ 1) × (time_at deps 0 < c) → Onward (towards_at v c) (towards_at v c')
      after l = rw (gone v c l.1, gone v c' (omega (arith, l.1))) (calls v 0 0 (omega arith) InTransitTo InTransitTo)
  turns Towards After s s' =
      ⊎_elim (λ l. rw (still v c (ahead c l)) (approach_call v.approach (length arrs - 1) StoppedAt)) (λ l. absurd (omega (arith, s'.0, l.0))) (s some)
  turns After (At j) s s' = absurd (omega (arith, s.1 j s'.0, s'.2))
  turns After (Between j) s s' = absurd (omega (arith, s.1 (j + 1) s'.0, timely.calls (j + 1) s'.0, s'.2))
  turns After Towards s s' =
      ⊎_elim (λ l. absurd (omega (arith, s.1 0 some, timely.calls 0 some))) (λ l. absurd (omega (arith, s.0, l.0))) (s' some)
  turns After After s s' = calls v (length arrs - 1) (length arrs - 1) (omega arith) StoppedAt StoppedAt

  -- with a call or more
  called : Onward (at_turn v c (clock_turn c arrs deps)) (at_turn v c' (clock_turn c' arrs deps))
  called = turns (clock_turn c arrs deps) (clock_turn c' arrs deps) (turn_says_timely arrs deps timely c) (turn_says_timely arrs deps timely c')

-- where she is pinned, or silent, she stays
pinned_stays : (v : Voyage) (pin : Pin) → NotAstern (at_pin pin) (at_pin pin)
unfolding at_stop
pinned_stays v unplaced = tt
pinned_stays v (pinned stop sequence at) = inr (refl, tt)

-- The estimate of a voyage never goes astern: at the later of two clocks it is silent exactly where it is at the earlier, and else its place is no earlier.
pub voyage_not_astern : (v : Voyage) → Steady v → time_at v.arrs 0 < 4294967296 → (c c' : ℕ) → c ≤ c' → c' < 4294967296 → NotAstern (outcome_at v c) (outcome_at v c')
unfolding outcome_at
voyage_not_astern v steady first_bound c c' h bound = go v.cancelled (eqb (length v.arrs) 0) (some (length v.arrs))
  where
    some : (n : ℕ) → eqb n 0 ≡ false → 1 ≤ n
    some zero e = clash (cc)
    some (suc n) e = omega arith

    go : (x y : Bool) → (y ≡ false → 1 ≤ length v.arrs) →
        NotAstern (cond x None (cond y (at_pin v.pin) (Some (at_turn v c (clock_turn c v.arrs v.deps)))))
        (cond x None (cond y (at_pin v.pin) (Some (at_turn v c' (clock_turn c' v.arrs v.deps)))))
    go true y f = tt
    go false true f = pinned_stays v v.pin
    go false false f = called v steady (f refl) first_bound c c' h bound
