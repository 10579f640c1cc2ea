-- Where there is a call, what she would be pinned to without one is not read. Assumes nothing.
use Rattle.std.specs.Prelude.{Some, None}
use Prim.Native.Nat.{ℕ, suc}
use native.Mathlib.Omega.{arith}
use mathlib.Core.Path.{◌≡◌, refl}
use mathlib.Core.Bool.{cond}
use mathlib.Core.List.{List, [], ◌∷◌}
use borrow.Author.Tests.{ne_eqb}
use lib.Dec.{eqb}
use lib.ListN.{length}
use Rattle.timeline.specs.Turn.{turn_of}
use Rattle.timeline.specs.declared.turn.Turn.{Turn}
use Rattle.timeline.specs.declared.turn.Turn.TheVariants.{At, Between, Towards, After}
use Rattle.voyages.specs.Voyage.{Approach, none, over, Pin, Voyage}
use Rattle.voyages.specs.Outcome.{at_pin, under_way_at, approaching, towards_at, at_turn, outcome_at}

-- the voyage with this pin
abbrev pub pinned_to : Voyage → Pin → Voyage
pinned_to v pin =
    record {
      cancelled = v.cancelled;
      arrs = v.arrs;
      deps = v.deps;
      stop = v.stop;
      sequence = v.sequence;
      position = v.position;
      leg = v.leg;
      approach = v.approach;
      pin = pin;
    }

module _ (v : Voyage) (pin : Pin) (clock : ℕ) where
  approaching_same : (a : Approach) → approaching (pinned_to v pin) clock a ≡ approaching v clock a
  approaching_same none = refl
  approaching_same (over leg run) = refl

  turn_same : (turn : Turn) → at_turn (pinned_to v pin) clock turn ≡ at_turn v clock turn
  unfolding under_way_at towards_at
  turn_same (At k) = refl
  turn_same (Between k) = refl
  turn_same Towards = rw (approaching_same v.approach)
  turn_same After = refl

  pub pin_unread : (v.arrs ≡ [] → pin ≡ v.pin) → outcome_at (pinned_to v pin) clock ≡ outcome_at v clock
  unfolding outcome_at
  pin_unread h = go v.arrs refl
    where
      go : (arrs : List ℕ) → v.arrs ≡ arrs →
          cond v.cancelled None (cond (eqb (length arrs) 0) (at_pin pin) (Some (at_turn (pinned_to v pin) clock (turn_of clock v.arrs v.deps)))) ≡
          cond v.cancelled None (cond (eqb (length arrs) 0) (at_pin v.pin) (Some (at_turn v clock (turn_of clock v.arrs v.deps))))
      go [] a = rw (h a)
      go (x ∷ arrs) a = rw (ne_eqb (suc (length arrs)) 0 (omega arith), turn_same (turn_of clock v.arrs v.deps))
