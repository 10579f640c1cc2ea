-- Silence falls exactly where the sailing is cancelled, or has no call and cannot be pinned. Assumes nothing.
use Rattle.std.specs.Prelude.{Option, Some, None}
use Prim.Native.Nat.{ℕ, suc}
use mathlib.Core.Path.{◌≡◌, refl}
use mathlib.Core.Logic.{◌⊎◌, inl, inr, ⊎_elim}
use mathlib.Core.Bool.{Bool, true, false, cond}
use mathlib.Core.List.{List, [], ◌∷◌}
use native.Mathlib.Omega.{arith}
use borrow.Author.Tests.{ne_eqb}
use lib.Dec.{eqb}
use lib.ListN.{length}
use Rattle.ids.proofs.ByteOrder.{clash}
use Rattle.paths.specs.declared.status.Status.TheVariants.{InTransitTo}
use Rattle.timeline.specs.Turn.{turn_of}
use Rattle.voyages.specs.Record.{at_stop}
use Rattle.voyages.specs.Voyage.{Pin, unplaced, pinned, Voyage}
use Rattle.voyages.specs.Outcome.{at_turn, at_pin, outcome_at}
use Rattle.voyages.specs.declared.record.Placed.{Placed}
use Rattle.voyage_order.specs.Agree.{Silent}

-- an estimate is no silence
spoken : (a : Placed) → Some a ≡ None → ⊥
spoken a e = clash (cc)

module _ (v : Voyage) where
  pub silent_where : (clock : ℕ) → Silent v → outcome_at v clock ≡ None
  unfolding outcome_at
  silent_where clock s = ⊎_elim (λ e. rw e refl) (λ e. none_placed v.cancelled e.0 e.1) s
    where
      none_placed : (x : Bool) → v.arrs ≡ [] → v.pin ≡ unplaced → cond x None (cond (eqb (length v.arrs) 0) (at_pin v.pin) (Some (at_turn v clock (turn_of clock v.arrs v.deps)))) ≡ None
      none_placed true e p = refl
      none_placed false e p = rw (e, p) refl

  pub silent_only : (clock : ℕ) → outcome_at v clock ≡ None → Silent v
  unfolding outcome_at
  silent_only clock = go v.cancelled refl v.arrs refl v.pin refl
    where
      go : (x : Bool) → v.cancelled ≡ x → (arrs : List ℕ) → v.arrs ≡ arrs → (pin : Pin) → v.pin ≡ pin →
          cond x None (cond (eqb (length arrs) 0) (at_pin pin) (Some (at_turn v clock (turn_of clock v.arrs v.deps)))) ≡ None → Silent v
      go true c arrs a pin p e = inl c
      go false c [] a unplaced p e = inr (a, p)
      go false c [] a (pinned stop sequence at) p e = absurd (spoken (at_stop 1 at InTransitTo stop sequence) e)
      go false c (x ∷ arrs) a pin p e = absurd (spoken (at_turn v clock (turn_of clock v.arrs v.deps)) (rw (ne_eqb (suc (length arrs)) 0 (omega arith)) at e))
