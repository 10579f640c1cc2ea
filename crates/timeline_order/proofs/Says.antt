-- What a turn says of the clock: of any calls, and of calls whose times do not go back. Assumes nothing.
use Rattle.std.specs.Prelude.{Option, Some, None}
use Prim.Native.Nat.{ℕ, zero, suc, ◌+◌, ◌-◌, ◌<◌, ◌≤◌}
use native.Mathlib.Nat.{eq-or-lt_of_le, le_of_suc-le-suc, le_trans}
use native.Mathlib.Numerals.{add-one}
use native.Mathlib.Omega.{arith}
use mathlib.Core.Path.{◌≡◌, refl}
use mathlib.Core.Logic.{◌⊎◌, inl, inr, ⊎_elim}
use mathlib.Core.Bool.{Bool, true, false, ◌&&◌, cond}
use mathlib.Core.List.{List}
use borrow.Author.Tests.{leb-true, leb-false, le-leb, ltb-true, ltb-false}
use lib.Dec.{leb, ltb}
use lib.ListN.{length}
use Rattle.ids.specs.First.{first}
use Rattle.ids.proofs.Search.{first_found, first_none, first_before}
use Rattle.ids.proofs.ByteOrder.{clash}
use Rattle.timeline.specs.Turn.{time_at, during, alongside, under_way, edge_of, turn_from, turn_of}
use Rattle.timeline.specs.declared.turn.Turn.{Turn}
use Rattle.timeline.specs.declared.turn.Turn.TheVariants.{At, Between, Towards, After}
use Rattle.timeline_order.specs.Order.{Timely}

-- ---- a clock between two moments, or not
pub during-true : (clock from to : ℕ) → during clock from to ≡ true → (from ≤ clock) × (clock ≤ to)
unfolding during
during-true clock from to e = go (leb from clock) (leb clock to) e (leb-true from clock) (leb-true clock to)
  where
    go : (a b : Bool) → a && b ≡ true → (a ≡ true → from ≤ clock) → (b ≡ true → clock ≤ to) → (from ≤ clock) × (clock ≤ to)
    go true true e p q = (p refl, q refl)
    go true false e p q = clash (cc)
    go false b e p q = clash (cc)

-- it has not come to the first, or is past the second
pub during-false : (clock from to : ℕ) → during clock from to ≡ false → from ≤ clock → to < clock
unfolding during
during-false clock from to e h = go (leb clock to) (rw (le-leb from clock h) at e) (leb-false clock to)
  where
    go : (b : Bool) → b ≡ false → (b ≡ false → to < clock) → to < clock
    go b e p = p e

-- ---- of any calls
-- the clock is alongside of none of the first n calls
abbrev pub Away : ℕ → List ℕ → List ℕ → ℕ → Type 0
Away clock arrs deps n = (j : ℕ) → j < n → alongside clock arrs deps j ≡ false

abbrev pub Says : ℕ → List ℕ → List ℕ → Turn → Type 0
Says clock arrs deps (At k) = (k < length arrs) × (time_at arrs k ≤ clock) × (clock ≤ time_at deps k) × Away clock arrs deps k
Says clock arrs deps (Between k) = (k + 1 < length arrs) × (time_at deps k ≤ clock) × (clock ≤ time_at arrs (k + 1)) × Away clock arrs deps (length arrs)
Says clock arrs deps Towards = ((length arrs < 2) ⊎ (clock < time_at arrs 0)) × Away clock arrs deps (length arrs)
Says clock arrs deps After =
    (2 ≤ length arrs) × (time_at arrs 0 ≤ clock) × Away clock arrs deps (length arrs) × ((k : ℕ) → k + 1 < length arrs → under_way clock arrs deps k ≡ false)

module _ (clock : ℕ) (arrs deps : List ℕ) where
  edge_says : Away clock arrs deps (length arrs) → ((k : ℕ) → k + 1 < length arrs → under_way clock arrs deps k ≡ false) → Says clock arrs deps (edge_of clock arrs)
  unfolding edge_of
  edge_says a b = go (ltb (length arrs) 2) (ltb clock (time_at arrs 0)) (ltb-true (length arrs) 2) (ltb-false (length arrs) 2) (ltb-true clock (time_at arrs 0)) (ltb-false clock (time_at arrs 0))
    where
      go : (x y : Bool) → (x ≡ true → length arrs < 2) → (x ≡ false → 2 ≤ length arrs) → (y ≡ true → clock < time_at arrs 0) → (y ≡ false → time_at arrs 0 ≤ clock) →
          Says clock arrs deps (cond x Towards (cond y Towards After))
      go true y f g h i = (inl (f refl), a)
      go false true f g h i = (inr (h refl), a)
      go false false f g h i = (g refl, i refl, a, b)

  pub turn_says : Says clock arrs deps (turn_of clock arrs deps)
  unfolding turn_of
  turn_says = go (first (alongside clock arrs deps) (length arrs)) (first (under_way clock arrs deps) (length arrs - 1)) refl refl
    where
      go : (f g : Option ℕ) → first (alongside clock arrs deps) (length arrs) ≡ f → first (under_way clock arrs deps) (length arrs - 1) ≡ g → Says clock arrs deps (turn_from f g (edge_of clock arrs))
      go (Some k) g e d =
          let h = first_found (alongside clock arrs deps) (length arrs) k e in
          let t = during-true clock (time_at arrs k) (time_at deps k) h.1 in
          (h.0, t.0, t.1, first_before (alongside clock arrs deps) (length arrs) k e)
      go None (Some k) e d =
          let h = first_found (under_way clock arrs deps) (length arrs - 1) k d in
          let t = during-true clock (time_at deps k) (time_at arrs (k + 1)) h.1 in
          (omega (arith, h.0), t.0, t.1, first_none (alongside clock arrs deps) (length arrs) e)
      go None None e d =
          edge_says (first_none (alongside clock arrs deps) (length arrs) e) (λ k l. first_none (under_way clock arrs deps) (length arrs - 1) d k (omega arith))

-- ---- of calls whose times do not go back
abbrev pub SaysTimely : ℕ → List ℕ → List ℕ → Turn → Type 0
SaysTimely clock arrs deps (At k) = (k < length arrs) × (time_at arrs k ≤ clock) × (clock ≤ time_at deps k) × ((j : ℕ) → j < k → time_at deps j < clock)
SaysTimely clock arrs deps (Between k) = (k + 1 < length arrs) × (time_at deps k < clock) × (clock < time_at arrs (k + 1))
SaysTimely clock arrs deps Towards = 1 ≤ length arrs → (clock < time_at arrs 0) ⊎ ((length arrs ≡ 1) × (time_at deps 0 < clock))
SaysTimely clock arrs deps After = (2 ≤ length arrs) × ((k : ℕ) → k < length arrs → time_at deps k < clock)

module _ (arrs deps : List ℕ) (timely : Timely arrs deps) where
  pub arrivals_mono : (i k : ℕ) → i ≤ k → k < length arrs → time_at arrs i ≤ time_at arrs k
  arrivals_mono i zero l m = let e : i ≡ 0 = omega arith in rw e (omega arith)
  arrivals_mono i (suc k) l m =
      ⊎_elim (λ (e : i ≡ suc k). rw e (omega arith))
      (λ h.
      let c = timely.calls k (omega arith) in
      let g : time_at deps k ≤ time_at arrs (suc k) = rw add-one at (timely.legs k (omega arith)) in
      le_trans (arrivals_mono i k (le_of_suc-le-suc h) (omega arith)) (omega arith))
      (eq-or-lt_of_le l)

  -- a departure is no later than an arrival after it, nor than a later departure
  pub departure_arrival : (i k : ℕ) → i < k → k < length arrs → time_at deps i ≤ time_at arrs k
  departure_arrival i k l m = le_trans (timely.legs i (omega arith)) (arrivals_mono (i + 1) k (omega arith) m)

  pub departures_mono : (i k : ℕ) → i ≤ k → k < length arrs → time_at deps i ≤ time_at deps k
  departures_mono i k l m = ⊎_elim (λ (e : i ≡ k). rw e (omega arith)) (λ h. le_trans (departure_arrival i k h m) (timely.calls k m)) (eq-or-lt_of_le l)

  module _ (clock : ℕ) where
    -- a call that the clock has come to and is not alongside of lies behind
    past : (k : ℕ) → k < length arrs → alongside clock arrs deps k ≡ false → time_at arrs k ≤ clock → time_at deps k < clock
    past k l e h = during-false clock (time_at arrs k) (time_at deps k) e h

    all_past : Away clock arrs deps (length arrs) → ((k : ℕ) → k + 1 < length arrs → under_way clock arrs deps k ≡ false) → time_at arrs 0 ≤ clock →
        (k : ℕ) → k < length arrs → time_at deps k < clock
    all_past a b h zero l = past 0 l (a 0 l) h
    all_past a b h (suc k) l =
        let d = all_past a b h k (omega arith) in
        let g : time_at arrs (suc k) < clock = rw add-one at (during-false clock (time_at deps k) (time_at arrs (k + 1)) (b k (omega arith)) (omega arith)) in
        past (suc k) l (a (suc k) l) (omega arith)

    timely_says : (turn : Turn) → Says clock arrs deps turn → SaysTimely clock arrs deps turn
    timely_says (At k) s =
        (s.0, s.1, s.2, λ j l. past j (omega (arith, s.0)) (s.3 j l) (le_trans (arrivals_mono j k (omega arith) s.0) s.1))
    timely_says (Between k) s =
        let d = past k (omega (arith, s.0)) (s.3 k (omega (arith, s.0))) (le_trans (timely.calls k (omega (arith, s.0))) s.1) in
        (s.0, d, next k s s.0)
      where
        next : (k : ℕ) → Says clock arrs deps (Between k) → k + 1 < length arrs → clock < time_at arrs (k + 1)
        next k s l = ⊎_elim (λ (e : clock ≡ time_at arrs (k + 1)). absurd (
            let g = past (k + 1) l (s.3 (k + 1) l) (omega arith) in
            let c = timely.calls (k + 1) l in omega arith)) (λ h. h) (eq-or-lt_of_le s.2)
    timely_says Towards s = λ l.
        ⊎_elim (λ (h : length arrs < 2). go l (leb (time_at arrs 0) clock) (leb-true (time_at arrs 0) clock) (leb-false (time_at arrs 0) clock) h)
        (λ h. inl h) s.0
      where
        go : 1 ≤ length arrs → (b : Bool) → (b ≡ true → time_at arrs 0 ≤ clock) → (b ≡ false → clock < time_at arrs 0) → length arrs < 2 → (clock < time_at arrs 0) ⊎ ((length arrs ≡ 1) × (time_at deps 0 < clock))
        go l true f g h = inr (omega arith, past 0 l (s.1 0 l) (f refl))
        go l false f g h = inl (g refl)
    timely_says After s = (s.0, all_past s.2 s.3 s.1)

    pub turn_says_timely : SaysTimely clock arrs deps (turn_of clock arrs deps)
    turn_says_timely = timely_says (turn_of clock arrs deps) (turn_says clock arrs deps)
