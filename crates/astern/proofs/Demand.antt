-- The theorems on the estimate of lent tables, refusals included. Assumes nothing.
use Rattle.std.specs.Prelude.{Option, None}
use Prim.Native.Nat.{ℕ, zero, suc, ◌<◌, ◌≤◌}
use native.Mathlib.Omega.{arith}
use mathlib.Core.Path.{◌≡◌, refl, sym, subst, ◌∙◌}
use mathlib.Core.Logic.{inl, inr}
use borrow.Author.Tests.{ne_eqb}
use Rattle.ids.proofs.ByteOrder.{clash}
use Rattle.refusals.specs.Answer.{given}
use Rattle.answers.specs.Answers.{unless_refused}
use Rattle.tables.specs.Pools.{Pools}
use Rattle.tables.specs.Bounds.{chart_bounds}
use Rattle.verdicts.specs.Refuse.{refusal_of}
use Rattle.tables.specs.declared.lent.Tables.{Tables}
use Rattle.checks.specs.Operations.{estimate_causes}
use Rattle.timeline.specs.Turn.{time_at}
use Rattle.row_lists.specs.Rows.{passing}
use Rattle.calls.specs.Calls.{call_rows, call_arrivals}
use Rattle.best_rows.specs.Serving.{best_below, best_row}
use Rattle.sailing_rows.specs.Rows.{clock_of}
use Rattle.estimate_facts.proofs.Asked.{clock_bound, arrivals_bound}
use Rattle.voyages.specs.Outcome.{outcome_at}
use Rattle.voyages.specs.declared.record.Placed.{Placed}
use Rattle.voyage_order.specs.Agree.{Agrees, Silent}
use Rattle.voyage_order.specs.Astern.{NotAstern}
use Rattle.voyage_order.proofs.Agree.{voyage_agrees}
use Rattle.voyage_order.proofs.Silence.{silent_where, silent_only}
use Rattle.voyage_order.proofs.Voyages.{voyage_not_astern}
use Rattle.estimate.specs.Answers.{estimate_of}
use Rattle.plans.specs.Plan.{voyage_from, voyage_of}
use Rattle.astern.specs.Clocks.{SameButClock, GrantedVoyage, Hypotheses}
use Rattle.astern.specs.Silent.{SilentCase}
use Rattle.astern.proofs.Same.{none_mapped, always_matched}
use Rattle.astern.proofs.Voyages.{outcomes_same}
use Rattle.astern.proofs.Legs.{voyage_agreed, voyage_steady}

-- an answer that is given is not refused, and is the value
taken : {A : Type 0} (n : ℕ) (x y : A) → unless_refused n x ≡ given y → (n ≡ 0) × (x ≡ y)
taken zero x y f = (refl, cc)
taken (suc n) x y f = clash (cc (ne_eqb (suc n) 0 (omega arith)))

module _ (p : Pools) (t : Tables) where
  -- where it is accepted, nothing is refused, and it is the voyage's outcome
  accepted : (o : Option Placed) → estimate_of p t ≡ given o → (refusal_of p (estimate_causes chart_bounds t) ≡ 0) × (outcome_at (voyage_of p t) (clock_of p.times t.sailing) ≡ o)
  unfolding estimate_of
  accepted o f = taken (refusal_of p (estimate_causes chart_bounds t)) (outcome_at (voyage_of p t) (clock_of p.times t.sailing)) o f

  -- Agreement (demand 2): of every estimate the coordinates are those of the place beside it, bit for bit.
  pub estimate_agrees : (o : Option Placed) → estimate_of p t ≡ given o → Agrees (voyage_of p t) o
  estimate_agrees o f = subst (λ (q : Option Placed). Agrees (voyage_of p t) q) (accepted o f).1 (voyage_agrees (voyage_of p t) (voyage_agreed p t) (clock_of p.times t.sailing))

  -- ---- silence
  voyage_silent : SilentCase p t → Silent (voyage_of p t)
  unfolding voyage_of voyage_from call_arrivals call_rows best_row passing best_below
  voyage_silent (inl c) = inl c
  voyage_silent (inr (inl none)) = inr (rw none refl, rw none refl)
  voyage_silent (inr (inr (rows, pin))) = inr (rw rows refl, pin)

  silent_case : Silent (voyage_of p t) → SilentCase p t
  unfolding voyage_of voyage_from call_arrivals
  silent_case (inl c) = inl c
  silent_case (inr (rows, pin)) = inr (inr (none_mapped _ _ rows, pin))

  -- Of tables that are accepted, silence falls where the sailing is cancelled, has no updates, or has no call and its best stop cannot be placed,
  pub silence_where : refusal_of p (estimate_causes chart_bounds t) ≡ 0 → SilentCase p t → estimate_of p t ≡ given None
  unfolding estimate_of
  silence_where e s = rw (e, silent_where (voyage_of p t) (clock_of p.times t.sailing) (voyage_silent s)) refl

  -- and only there.
  pub silence_only : estimate_of p t ≡ given None → SilentCase p t
  silence_only f = silent_case (silent_only (voyage_of p t) (clock_of p.times t.sailing) (accepted None f).1)

-- ---- demand 3

first_arrival : (p : Pools) (t : Tables) → refusal_of p (estimate_causes chart_bounds t) ≡ 0 → time_at (voyage_of p t).arrs 0 < 4294967296
unfolding voyage_of voyage_from
first_arrival p t e = omega (arith, arrivals_bound p t e 0)

module _ (p p' : Pools) (t t' : Tables) where
  -- Demand 3. Two accepted clocks, with its hypotheses: either both give an estimate or neither does, and where both do, the later gives no earlier place.
  pub demand_3 : Hypotheses p p' t t' → clock_of p.times t.sailing ≤ clock_of p'.times t'.sailing →
      (o o' : Option Placed) → estimate_of p t ≡ given o → estimate_of p' t' ≡ given o' → NotAstern o o'
  demand_3 h later o o' f f' =
      let e = accepted p t o f in
      let e' = accepted p' t' o' f' in
      let c = clock_of p.times t.sailing in
      let c' = clock_of p'.times t'.sailing in
      let end : outcome_at (voyage_of p t) c' ≡ o' = sym (outcomes_same h.lent e.0 h.match c') ∙ e'.1 in
      subst (λ (q : Option Placed). NotAstern o q) end (subst (λ (q : Option Placed). NotAstern q (outcome_at (voyage_of p t) c')) e.1
      (voyage_not_astern (voyage_of p t) (voyage_steady p t e.0 h.voyage) (first_arrival p t e.0) c c' later (omega (arith, clock_bound p' t' e'.0))))

  -- The same without what always holds: the static trip and the best stop do not hang on the clock.
  pub never_astern : SameButClock p p' t t' → GrantedVoyage (voyage_of p t) → clock_of p.times t.sailing ≤ clock_of p'.times t'.sailing →
      (o o' : Option Placed) → estimate_of p t ≡ given o → estimate_of p' t' ≡ given o' → NotAstern o o'
  never_astern lent granted later o o' f f' =
      demand_3 (record { lent = lent; match = always_matched lent (accepted p t o f).0; voyage = granted }) later o o' f f'
