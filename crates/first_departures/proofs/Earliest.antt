-- The first departure of rows. Assumes nothing.
use Rattle.std.specs.Prelude.{Option, Some, None}
use Prim.Native.Nat.{ℕ, zero, suc, ◌+◌, ◌<◌, ◌≤◌, min}
use native.Mathlib.Omega.{arith}
use native.Mathlib.Nat.{eq-or-lt_of_le, le_of_suc-le-suc}
use mathlib.Core.Path.{◌≡◌, refl, ap, ◌∙◌}
use mathlib.Core.Logic.{⊎_elim}
use mathlib.Core.Bool.{Bool, true, false, cond}
use mathlib.Core.List.{List}
use borrow.Author.Tests.{ltb-true, ltb-false}
use lib.Dec.{ltb}
use lib.IntN.{ℤ}
use Rattle.ids.proofs.ByteOrder.{clash, split}
use Rattle.tables.specs.declared.lent.Updates.{Updates}
use Rattle.update_rows.specs.Updates.{is_timed}
use Rattle.update_times.specs.Times.{departure_of}
use Rattle.first_departures.specs.Firsts.{least_of, earlier, first_below}

pub first_next : (bytes : List ℕ) (u : Updates) (times : List ℤ) (k : ℕ) → first_below bytes u times (k + 1) ≡ earlier bytes u times (first_below bytes u times k) k
unfolding first_below
first_next bytes u times k = let e : k + 1 ≡ suc k = omega arith in ap (first_below bytes u times) e

-- The first departure of some rows that have a time: that of one of them, and none departs before. Where there is none, no row has a time.
module _ (bytes : List ℕ) (u : Updates) (times : List ℤ) where
  pub record Earliest (n m : ℕ) : Type 0 where
    pub row : ℕ
    pub below : row < n
    pub timed : is_timed bytes u row ≡ true
    pub departs : departure_of bytes u times row ≡ m
    pub least : (k : ℕ) → k < n → is_timed bytes u k ≡ true → m ≤ departure_of bytes u times k

  none_earlier : (f : Option ℕ) (n : ℕ) → earlier bytes u times f n ≡ None → (f ≡ None) × (is_timed bytes u n ≡ false)
  none_earlier f n e = go (is_timed bytes u n) refl f e where
    go : (s : Bool) → is_timed bytes u n ≡ s → (g : Option ℕ) → cond s (least_of g (departure_of bytes u times n)) g ≡ None → (g ≡ None) × (is_timed bytes u n ≡ false)
    go true t (Some a) q = clash (cc)
    go true t None q = clash (cc)
    go false t g q = (q, t)

  pub first_none : (n : ℕ) → first_below bytes u times n ≡ None → (k : ℕ) → k < n → is_timed bytes u k ≡ false
  unfolding first_below
  first_none zero e k l = absurd (omega arith)
  first_none (suc n) e k l =
      let h = none_earlier (first_below bytes u times n) n e in
      ⊎_elim (λ (o : k ≡ n). rw o h.1) (first_none n h.0 k) (eq-or-lt_of_le (le_of_suc-le-suc l))

  -- row n has no time
  still : (n m : ℕ) → is_timed bytes u n ≡ false → Earliest n m → Earliest (suc n) m
  still n m t h = record {
    row = h.row;
    below = omega (arith, h.below);
    timed = h.timed;
    departs = h.departs;
    least = λ k l s. ⊎_elim (λ (o : k ≡ n). clash (cc)) (λ q. h.least k q s) (eq-or-lt_of_le (le_of_suc-le-suc l));
  }

  -- row n has one, and departs no later than those before
  now_first : (n : ℕ) → is_timed bytes u n ≡ true → ((k : ℕ) → k < n → is_timed bytes u k ≡ true → departure_of bytes u times n ≤ departure_of bytes u times k) →
      Earliest (suc n) (departure_of bytes u times n)
  now_first n t h = record {
    row = n;
    below = omega arith;
    timed = t;
    departs = refl;
    least = λ k l s. ⊎_elim (λ (o : k ≡ n). omega (arith, ap (departure_of bytes u times) o)) (λ q. h k q s) (eq-or-lt_of_le (le_of_suc-le-suc l));
  }

  -- row n departs later
  not_first : (n a : ℕ) → Earliest n a → a ≤ departure_of bytes u times n → Earliest (suc n) a
  not_first n a h o = record {
    row = h.row;
    below = omega (arith, h.below);
    timed = h.timed;
    departs = h.departs;
    least = λ k l s. ⊎_elim (λ (q : k ≡ n). omega (arith, ap (departure_of bytes u times) q)) (λ q. h.least k q s) (eq-or-lt_of_le (le_of_suc-le-suc l));
  }

  pub first_is : (n m : ℕ) → first_below bytes u times n ≡ Some m → Earliest n m
  unfolding first_below
  first_is zero m e = clash (cc)
  first_is (suc n) m e = go (is_timed bytes u n) refl (first_below bytes u times n) refl e (first_is n) where
    go : (s : Bool) → is_timed bytes u n ≡ s → (f : Option ℕ) → first_below bytes u times n ≡ f → cond s (least_of f (departure_of bytes u times n)) f ≡ Some m →
        ((a : ℕ) → first_below bytes u times n ≡ Some a → Earliest n a) → Earliest (suc n) m
    go false t f q r h = still n m t (h m (q ∙ r))
    go true t None q r h =
        let o : departure_of bytes u times n ≡ m = cc in
        rw (← o) (now_first n t (λ k l s. let z : is_timed bytes u k ≡ false = first_none n q k l in clash (cc)))
    go true t (Some a) q r h =
        let o : min a (departure_of bytes u times n) ≡ m = cc in
        ⊎_elim (λ z. let l : departure_of bytes u times n < a = ltb-true _ _ z in let i : departure_of bytes u times n ≡ m = omega arith in
        rw (← i) (now_first n t (λ k b s. omega (arith, (h a q).least k b s))))
        (λ z. let l : a ≤ departure_of bytes u times n = ltb-false _ _ z in let i : a ≡ m = omega arith in rw (← i) (not_first n a (h a q) l))
        (split (ltb (departure_of bytes u times n) a))
