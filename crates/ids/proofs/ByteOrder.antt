-- The order of texts is total: each law is over all lists. Assumes nothing.
use Rattle.std.specs.declared.cmp.Ordering.{Ordering}
use Rattle.std.specs.declared.cmp.Ordering.TheVariants.{Less, Equal, Greater}
use Prim.Native.Nat.{ℕ, ◌<◌, ◌≤◌, ◌+◌}
use mathlib.Core.Path.{◌≡◌, refl, sym, ap, ◌∙◌}
use mathlib.Core.Logic.{◌⊎◌, inl, inr, ⊎_elim, ◌↔◌}
use mathlib.Core.Bool.{Bool, true, false, ◌&&◌}
use mathlib.Core.List.{List, [], ◌∷◌}
use native.Mathlib.Omega.{arith}
use native.Mathlib.Numerals.{add-one}
use lib.ListN.{length, get_or, drop, drop_of_length-le}
use lib.Seq.{drop-cons}
use lib.Dec.{ltb, eqb}
use borrow.Author.Tests.{lt-ltb, le-ltb, ltb-true, ltb-false, eq-eqb, eqb-true}
use Rattle.ids.specs.Cmp.{cmp, equal}

-- Cases of a test, and of two numbers.
pub split : (b : Bool) → (b ≡ true) ⊎ (b ≡ false)
split true = inl refl
split false = inr refl

pub clash {ℓ} : {X : Type ℓ} → ◌≡◌ {A = ℕ} 0 1 → X
clash z = absurd (omega arith)

tri : (x y : ℕ) → (x < y) ⊎ ((x ≡ y) ⊎ (y < x))
tri x y =
    ⊎_elim (λ e. inl (ltb-true x y e))
    (λ e. ⊎_elim (λ f. inr (inr (ltb-true y x f))) (λ f. inr (inl (omega (arith, ltb-false x y e, ltb-false y x f)))) (split (ltb y x)))
    (split (ltb x y))

-- What the first bytes decide.
module _ (x y : ℕ) (a b : List ℕ) where
  pub head_less : x < y → cmp (x ∷ a) (y ∷ b) ≡ Less
  unfolding cmp
  head_less h = simp (lt-ltb x y h)

  pub head_more : y < x → cmp (x ∷ a) (y ∷ b) ≡ Greater
  unfolding cmp
  head_more h = let l : y ≤ x = omega arith in simp (le-ltb x y l, lt-ltb y x h)

  pub head_same : x ≡ y → cmp (x ∷ a) (y ∷ b) ≡ cmp a b
  unfolding cmp
  head_same h = let l : y ≤ x = omega arith in let m : x ≤ y = omega arith in simp (le-ltb x y l, le-ltb y x m)

  less_heads : cmp (x ∷ a) (y ∷ b) ≡ Less → (x < y) ⊎ ((x ≡ y) × (cmp a b ≡ Less))
  less_heads e =
      ⊎_elim (λ l. inl l)
      (λ r. ⊎_elim (λ q. inr (q, sym (head_same q) ∙ e)) (λ g. let m = head_more g in clash (cc)) r)
      (tri x y)

-- Transitive.
pub less_trans : (a b c : List ℕ) → cmp a b ≡ Less → cmp b c ≡ Less → cmp a c ≡ Less
unfolding cmp
less_trans [] [] c p q = clash (cc)
less_trans [] (y ∷ b) [] p q = clash (cc)
less_trans [] (y ∷ b) (z ∷ c) p q = refl
less_trans (x ∷ a) [] c p q = clash (cc)
less_trans (x ∷ a) (y ∷ b) [] p q = q
less_trans (x ∷ a) (y ∷ b) (z ∷ c) p q =
    ⊎_elim
    (λ l. ⊎_elim (λ m. head_less x z a c (omega arith)) (λ m. head_less x z a c (omega arith)) (less_heads y z b c q))
    (λ l. ⊎_elim (λ m. head_less x z a c (omega arith)) (λ m. head_same x z a c (l.0 ∙ m.0) ∙ less_trans a b c l.1 m.1) (less_heads y z b c q))
    (less_heads x y a b p)

-- Antisymmetric: the other way round the answer is turned round.
abbrev pub flip : Ordering → Ordering
flip Less = Greater
flip Equal = Equal
flip Greater = Less

pub cmp-flip : (a b : List ℕ) → cmp b a ≡ flip (cmp a b)
unfolding cmp
cmp-flip [] [] = refl
cmp-flip [] (y ∷ b) = refl
cmp-flip (x ∷ a) [] = refl
cmp-flip (x ∷ a) (y ∷ b) =
    ⊎_elim (λ l. head_more y x b a l ∙ ap flip (sym (head_less x y a b l)))
    (λ r. ⊎_elim (λ q. head_same y x b a (sym q) ∙ cmp-flip a b ∙ ap flip (sym (head_same x y a b q))) (λ g. head_less y x b a g ∙ ap flip (sym (head_more x y a b g))) r)
    (tri x y)

pub less_more : (a b : List ℕ) → (cmp a b ≡ Less) ↔ (cmp b a ≡ Greater)
less_more a b = (λ e. cmp-flip a b ∙ ap flip e, λ e. cmp-flip b a ∙ ap flip e)

-- Equal exactly where the lists are equal.
same_eq : (a b : List ℕ) → cmp a b ≡ Equal → a ≡ b
unfolding cmp
same_eq [] [] p = refl
same_eq [] (y ∷ b) p = clash (cc)
same_eq (x ∷ a) [] p = clash (cc)
same_eq (x ∷ a) (y ∷ b) p =
    ⊎_elim (λ l. let m = head_less x y a b l in clash (cc))
    (λ r. ⊎_elim (λ q. let t = same_eq a b (sym (head_same x y a b q) ∙ p) in (cc)) (λ g. let m = head_more x y a b g in clash (cc)) r)
    (tri x y)

cmp_refl : (a : List ℕ) → cmp a a ≡ Equal
unfolding cmp
cmp_refl [] = refl
cmp_refl (x ∷ a) = head_same x x a a refl ∙ cmp_refl a

pub same_equal : (a b : List ℕ) → (cmp a b ≡ Equal) ↔ (a ≡ b)
same_equal a b = (same_eq a b, λ e. ap (cmp a) (sym e) ∙ cmp_refl a)

-- The test `equal` holds exactly where the lists are equal.
pub both : (p q : Bool) → (p && q) ≡ true → (p ≡ true) × (q ≡ true)
both true true e = (refl, refl)
both true false e = clash (cc)
both false q e = clash (cc)

equal_refl : (a : List ℕ) → equal a a ≡ true
unfolding equal
equal_refl [] = refl
equal_refl (x ∷ a) = simp (eq-eqb x x refl, equal_refl a)

equal_eq : (a b : List ℕ) → equal a b ≡ true → a ≡ b
unfolding equal
equal_eq [] [] e = refl
equal_eq [] (y ∷ b) e = clash (cc)
equal_eq (x ∷ a) [] e = clash (cc)
equal_eq (x ∷ a) (y ∷ b) e =
    let h = both (eqb x y) (equal a b) e in
    let p = eqb-true x y h.0 in
    let q = equal_eq a b h.1 in
    (cc)

pub equal_iff : (a b : List ℕ) → (equal a b ≡ true) ↔ (a ≡ b)
equal_iff a b = (equal_eq a b, λ e. ap (equal a) (sym e) ∙ equal_refl a)

pub unequal : (a b : List ℕ) → (a ≡ b → ⊥) → equal a b ≡ false
unequal a b h = ⊎_elim (λ t. absurd (h (equal_eq a b t))) (λ f. f) (split (equal a b))

pub different : (a b : List ℕ) → (cmp a b ≡ Equal → ⊥) → equal a b ≡ false
different a b h = unequal a b (λ e. h ((same_equal a b).1 e))

-- What a loop that has compared the first i bytes sees next.
module _ (a b : List ℕ) (i : ℕ) where
  pub next_bytes : i < length a → i < length b → cmp (drop i a) (drop i b) ≡ cmp (get_or a i 0 ∷ drop (i + 1) a) (get_or b i 0 ∷ drop (i + 1) b)
  next_bytes h k = rw (add-one, drop-cons a i 0 h, drop-cons b i 0 k)

  pub second_ends : i < length a → length b ≤ i → cmp (drop i a) (drop i b) ≡ Greater
  unfolding cmp
  second_ends h k = simp (drop-cons a i 0 h, drop_of_length-le b k)

  pub first_ends : length a ≤ i → i < length b → cmp (drop i a) (drop i b) ≡ Less
  unfolding cmp
  first_ends h k = simp (drop_of_length-le a h, drop-cons b i 0 k)

  pub both_end : length a ≤ i → length b ≤ i → cmp (drop i a) (drop i b) ≡ Equal
  unfolding cmp
  both_end h k = simp (drop_of_length-le a h, drop_of_length-le b k)
