-- The best of rows. Assumes nothing.
use Rattle.std.specs.Prelude.{Option, Some, None}
use Prim.Native.Nat.{ℕ, zero, suc, ◌+◌, ◌<◌, ◌≤◌}
use native.Mathlib.Omega.{arith}
use native.Mathlib.Nat.{eq-or-lt_of_le, le_of_suc-le-suc}
use mathlib.Core.Path.{◌≡◌, refl, ap}
use mathlib.Core.Logic.{⊎_elim}
use mathlib.Core.Bool.{Bool, true, false, cond}
use borrow.Author.Tests.{ltb-true, ltb-false}
use lib.Dec.{ltb}
use Rattle.ids.proofs.ByteOrder.{clash}
use Rattle.best_rows.specs.Serving.{better, best_below}

module _ (score : ℕ → ℕ) where
  pub best_next : (k : ℕ) → best_below score (k + 1) ≡ better score (best_below score k) k
  unfolding best_below
  best_next k = let e : k + 1 ≡ suc k = omega arith in ap (best_below score) e

  -- The best of some rows: none has a greater score, and each before it has a lower one.
  pub record Best (n b : ℕ) : Type 0 where
    pub below : b < n
    pub greatest : (k : ℕ) → k < n → score k ≤ score b
    pub before : (k : ℕ) → k < b → score k < score b

  none_better : (f : Option ℕ) (n : ℕ) → better score f n ≡ None → ⊥
  none_better (Some b) n e = go (ltb (score b) (score n)) e where
    go : (s : Bool) → cond s (Some n) (Some b) ≡ None → ⊥
    go true q = clash (cc)
    go false q = clash (cc)
  none_better None n e = clash (cc)

  pub best_none : (n : ℕ) → best_below score n ≡ None → n ≡ 0
  unfolding best_below
  best_none zero e = refl
  best_none (suc n) e = absurd (none_better (best_below score n) n e)

  pick : (n a b : ℕ) → Best n a → (s : Bool) → ltb (score a) (score n) ≡ s → cond s (Some n) (Some a) ≡ Some b → Best (suc n) b
  pick n a b h true t e =
      let q : n ≡ b = cc in
      let u : score a < score n = ltb-true (score a) (score n) t in
      rw (← q)
      (record {
        below = omega arith;
        greatest = λ k l. ⊎_elim (λ (o : k ≡ n). omega (arith, ap score o)) (λ m. omega (arith, h.greatest k m)) (eq-or-lt_of_le (le_of_suc-le-suc l));
        before = λ k l. omega (arith, h.greatest k l);
      })
  pick n a b h false t e =
      let q : a ≡ b = cc in
      let u : score n ≤ score a = ltb-false (score a) (score n) t in
      rw (← q)
      (record {
        below = omega (arith, h.below);
        greatest = λ k l. ⊎_elim (λ (o : k ≡ n). omega (arith, ap score o)) (λ m. h.greatest k m) (eq-or-lt_of_le (le_of_suc-le-suc l));
        before = h.before;
      })

  only : (n b : ℕ) → n ≡ 0 → n ≡ b → Best (suc n) b
  only n b z q = record {
    below = omega arith;
    greatest = λ k l. let o : k ≡ b = omega arith in omega (arith, ap score o);
    before = λ k l. absurd (omega arith);
  }

  pub best_is : (n b : ℕ) → best_below score n ≡ Some b → Best n b
  unfolding best_below
  best_is zero b e = clash (cc)
  best_is (suc n) b e = go (best_below score n) refl (best_is n) e where
    go : (f : Option ℕ) → best_below score n ≡ f → ((a : ℕ) → best_below score n ≡ Some a → Best n a) → better score f n ≡ Some b → Best (suc n) b
    go (Some a) q h r = pick n a b (h a q) (ltb (score a) (score n)) refl r
    go None q h r = only n b (best_none n q) (cc)
