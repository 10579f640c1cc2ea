-- As the clock goes on, its turn does not go back, where no call's times do. Assumes nothing.
use Prim.Native.Nat.{ℕ, ◌+◌, ◌-◌, ◌*◌, ◌<◌, ◌≤◌}
use native.Mathlib.Nat.{le_trans}
use native.Mathlib.Omega.{arith}
use mathlib.Core.Path.{◌≡◌, refl, ap}
use mathlib.Core.Logic.{◌⊎◌, inl, inr, ⊎_elim}
use mathlib.Core.List.{List}
use lib.ListN.{length}
use Rattle.floats.proofs.Signed.{le_or_lt}
use Rattle.timeline.specs.Turn.{time_at, turn_of}
use Rattle.timeline.specs.declared.turn.Turn.{Turn}
use Rattle.timeline.specs.declared.turn.Turn.TheVariants.{At, Between, Towards, After}
use Rattle.timeline_order.specs.Order.{Timely, turn_rank}
use Rattle.timeline_order.proofs.Says.{SaysTimely, arrivals_mono, departures_mono, turn_says_timely}

module _ (arrs deps : List ℕ) (timely : Timely arrs deps) (several : 2 ≤ length arrs) where
  -- towards the first of several calls, the clock has not come to its arrival
  ahead : (clock : ℕ) → SaysTimely clock arrs deps Towards → clock < time_at arrs 0
  ahead clock s = ⊎_elim (λ h. h) (λ h. absurd (omega (arith, h.0))) (s (omega arith))

  -- the clock has come to the arrival at call k, and is past all departures before it: it is at that call or later
  from_call : (k clock : ℕ) → k < length arrs → time_at arrs k ≤ clock → ((j : ℕ) → j < k → time_at deps j < clock) → (turn : Turn) → SaysTimely clock arrs deps turn →
      2 * k + 2 ≤ turn_rank (length arrs) turn
  from_call k clock l a d (At j) s = ⊎_elim (λ h. omega arith) (λ h. absurd (omega (arith, d j h, s.2))) (le_or_lt k j)
  from_call k clock l a d (Between j) s =
      ⊎_elim (λ h. omega arith) (λ (h : j < k). absurd (omega (arith, arrivals_mono arrs deps timely (j + 1) k (omega arith) l, s.2))) (le_or_lt k j)
  from_call k clock l a d Towards s = absurd (omega (arith, ahead clock s, arrivals_mono arrs deps timely 0 k (omega arith) l))
  from_call k clock l a d After s = omega arith

  -- the clock is past the departure from call k, which is not the last: it is on the leg after it or later
  from_leg : (k clock : ℕ) → k + 1 < length arrs → time_at deps k < clock → (turn : Turn) → SaysTimely clock arrs deps turn → 2 * k + 3 ≤ turn_rank (length arrs) turn
  from_leg k clock l d (At j) s =
      ⊎_elim (λ (h : j ≤ k). absurd (omega (arith, departures_mono arrs deps timely j k h (omega arith), s.2))) (λ h. omega arith) (le_or_lt j k)
  from_leg k clock l d (Between j) s =
      ⊎_elim (λ h. omega arith)
      (λ (h : j < k). absurd (omega (arith, arrivals_mono arrs deps timely (j + 1) k (omega arith) (omega arith), timely.calls k (omega arith), s.2))) (le_or_lt k j)
  from_leg k clock l d Towards s =
      absurd (omega (arith, ahead clock s, arrivals_mono arrs deps timely 0 k (omega arith) (omega arith), timely.calls k (omega arith)))
  from_leg k clock l d After s = omega arith

  -- the clock is past every departure: it is after the last call
  from_last : (clock : ℕ) → ((k : ℕ) → k < length arrs → time_at deps k < clock) → (turn : Turn) → SaysTimely clock arrs deps turn → 2 * length arrs ≤ turn_rank (length arrs) turn
  from_last clock d (At j) s = absurd (omega (arith, d j s.0, s.2))
  from_last clock d (Between j) s = absurd (omega (arith, d (j + 1) s.0, timely.calls (j + 1) s.0, s.2))
  from_last clock d Towards s = absurd (omega (arith, ahead clock s, d 0 (omega arith), timely.calls 0 (omega arith)))
  from_last clock d After s = omega arith

  first_rank : (turn : Turn) → 1 ≤ turn_rank (length arrs) turn
  first_rank (At j) = omega arith
  first_rank (Between j) = omega arith
  first_rank Towards = omega arith
  first_rank After = omega arith

  later : (clock clock' : ℕ) → clock ≤ clock' → (turn turn' : Turn) → SaysTimely clock arrs deps turn → SaysTimely clock' arrs deps turn' →
      turn_rank (length arrs) turn ≤ turn_rank (length arrs) turn'
  later clock clock' h (At k) turn' s s' = from_call k clock' s.0 (le_trans s.1 h) (λ j l. omega (arith, s.3 j l)) turn' s'
  later clock clock' h (Between k) turn' s s' = from_leg k clock' s.0 (omega (arith, s.1)) turn' s'
  later clock clock' h Towards turn' s s' = first_rank turn'
  later clock clock' h After turn' s s' = from_last clock' (λ k l. omega (arith, s.1 k l)) turn' s'

  -- with two calls or more
  pub turn_order : (clock clock' : ℕ) → clock ≤ clock' → turn_rank (length arrs) (turn_of clock arrs deps) ≤ turn_rank (length arrs) (turn_of clock' arrs deps)
  turn_order clock clock' h =
      later clock clock' h (turn_of clock arrs deps) (turn_of clock' arrs deps) (turn_says_timely arrs deps timely clock) (turn_says_timely arrs deps timely clock')

-- ---- towards the first call, and a single call
module _ (arrs deps : List ℕ) (timely : Timely arrs deps) (clock : ℕ) where
  -- towards the first call and not past its departure, the clock has not come to its arrival
  pub towards_early : 1 ≤ length arrs → turn_of clock arrs deps ≡ Towards → clock ≤ time_at deps 0 → clock < time_at arrs 0
  towards_early l e h = let s : SaysTimely clock arrs deps Towards = rw e at (turn_says_timely arrs deps timely clock) in ⊎_elim (λ a. a) (λ p. absurd (omega (arith, p.1))) (s l)

  -- of a single call the clock is alongside, or it is towards it
  pub single_turn : length arrs ≡ 1 → (turn_of clock arrs deps ≡ At 0) ⊎ (turn_of clock arrs deps ≡ Towards)
  single_turn e = go (turn_of clock arrs deps) (turn_says_timely arrs deps timely clock)
    where
      go : (turn : Turn) → SaysTimely clock arrs deps turn → (turn ≡ At 0) ⊎ (turn ≡ Towards)
      go (At k) s = let z : k ≡ 0 = omega (arith, s.0) in inl (ap At z)
      go (Between k) s = absurd (omega (arith, s.0))
      go Towards s = inr refl
      go After s = absurd (omega (arith, s.0))

  -- after a clock alongside of it, one that is not is past its departure
  pub single_order : (clock' : ℕ) → clock ≤ clock' → 1 ≤ length arrs → turn_of clock arrs deps ≡ At 0 → turn_of clock' arrs deps ≡ Towards → time_at deps 0 < clock'
  single_order clock' h l e e' =
      let s : SaysTimely clock arrs deps (At 0) = rw e at (turn_says_timely arrs deps timely clock) in
      let s' : SaysTimely clock' arrs deps Towards = rw e' at (turn_says_timely arrs deps timely clock') in
      ⊎_elim (λ a. absurd (omega (arith, s.1))) (λ p. p.1) (s' l)
