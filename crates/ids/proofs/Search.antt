-- What `first` and `last` answer: how a loop shows an answer, and what an answer tells. Assumes nothing.
use Rattle.std.specs.Prelude.{Option, Some, None}
use Prim.Native.Nat.{ℕ, zero, suc, ◌<◌, ◌≤◌, ◌-◌}
use native.Mathlib.Omega.{arith}
use native.Mathlib.Nat.{eq-or-lt_of_le, le_of_suc-le-suc}
use mathlib.Core.Path.{◌≡◌, refl, sym, ap, ◌∙◌}
use mathlib.Core.Logic.{◌⊎◌, inl, inr, ⊎_elim}
use mathlib.Core.Bool.{Bool, true, false, cond}
use Rattle.ids.specs.First.{first, last, or_else}
use Rattle.ids.proofs.ByteOrder.{clash}

module _ (p : ℕ → Bool) where
  -- No number below n passes: nothing. One that passes, and none before it: that one.
  pub first_miss : (n : ℕ) → ((j : ℕ) → j < n → p j ≡ false) → None ≡ first p n
  unfolding first
  first_miss zero h = refl
  first_miss (suc n) h = simp (sym (first_miss n (λ j l. h j (omega arith))), h n (omega arith))

  pub first_hit : (n k : ℕ) → k < n → p k ≡ true → ((j : ℕ) → j < k → p j ≡ false) → Some k ≡ first p n
  unfolding first
  first_hit zero k l t h = absurd (omega arith)
  first_hit (suc n) k l t h =
      ⊎_elim (λ (e : k ≡ n). rw (← e) (simp (sym (first_miss k h), t))) (λ m. simp (sym (first_hit n k m t h))) (eq-or-lt_of_le (le_of_suc-le-suc l))

  -- What is found is below n and passes; where nothing is, none passes.
  first_step : (n k : ℕ) (f : Option ℕ) (b : Bool) → or_else f (cond b (Some n) None) ≡ Some k → (f ≡ Some k) ⊎ ((b ≡ true) × (n ≡ k))
  first_step n k (Some j) b e = inl e
  first_step n k None true e = inr (refl, cc)
  first_step n k None false e = clash (cc)

  wider : (n k : ℕ) → (k < n) × (p k ≡ true) → (k < suc n) × (p k ≡ true)
  wider n k h = (omega arith, h.1)

  newest : (n k : ℕ) → (p n ≡ true) × (n ≡ k) → (k < suc n) × (p k ≡ true)
  newest n k h = (omega arith, ap p (sym h.1) ∙ h.0)

  pub first_found : (n k : ℕ) → first p n ≡ Some k → (k < n) × (p k ≡ true)
  unfolding first
  first_found zero k e = clash (cc)
  first_found (suc n) k e = ⊎_elim (λ q. wider n k (first_found n k q)) (newest n k) (first_step n k (first p n) (p n) e)

  none_step : (n : ℕ) (f : Option ℕ) (b : Bool) → or_else f (cond b (Some n) None) ≡ None → (f ≡ None) × (b ≡ false)
  none_step n (Some j) b e = clash (cc)
  none_step n None true e = clash (cc)
  none_step n None false e = (refl, refl)

  pub first_none : (n : ℕ) → first p n ≡ None → (j : ℕ) → j < n → p j ≡ false
  unfolding first
  first_none zero e j l = absurd (omega arith)
  first_none (suc n) e j l =
      let h = none_step n (first p n) (p n) e in
      ⊎_elim (λ (q : j ≡ n). ap p q ∙ h.1) (λ m. first_none n h.0 j m) (eq-or-lt_of_le (le_of_suc-le-suc l))

  -- No number before the one found passes.
  pub first_before : (n k : ℕ) → first p n ≡ Some k → (j : ℕ) → j < k → p j ≡ false
  unfolding first
  first_before zero k e j l = clash (cc)
  first_before (suc n) k e j l = go (first p n) refl e (λ q. first_before n k q j l) where
    go : (f : Option ℕ) → first p n ≡ f → or_else f (cond (p n) (Some n) None) ≡ Some k → (first p n ≡ Some k → p j ≡ false) → p j ≡ false
    go (Some i) q r h = h (q ∙ r)
    go None q r h = first_none n q j (omega (arith, (first_found (suc n) k e).0))

  -- A loop downwards at k: the number before k passes, or does not, or there is none.
  module _ (k : ℕ) where
    last_back : 0 < k → last p k ≡ cond (p (k - 1)) (Some (k - 1)) (last p (k - 1))
    unfolding last
    last_back l = let e : k ≡ suc (k - 1) = omega arith in ap (last p) e

    pub last_hit : 0 < k → p (k - 1) ≡ true → last p k ≡ Some (k - 1)
    last_hit l t = last_back l ∙ simp t

    pub last_skip : 0 < k → p (k - 1) ≡ false → last p k ≡ last p (k - 1)
    last_skip l t = last_back l ∙ simp t

    pub last_miss : k ≤ 0 → last p k ≡ None
    unfolding last
    last_miss l = let e : k ≡ 0 = omega arith in ap (last p) e

  last_step : (n k : ℕ) (b : Bool) (f : Option ℕ) → cond b (Some n) f ≡ Some k → (f ≡ Some k) ⊎ ((b ≡ true) × (n ≡ k))
  last_step n k true f e = inr (refl, cc)
  last_step n k false f e = inl e

  pub last_found : (n k : ℕ) → last p n ≡ Some k → (k < n) × (p k ≡ true)
  unfolding last
  last_found zero k e = clash (cc)
  last_found (suc n) k e = ⊎_elim (λ q. wider n k (last_found n k q)) (newest n k) (last_step n k (p n) (last p n) e)
