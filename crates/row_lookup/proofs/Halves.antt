-- Halving rows that ascend finds the place of a key. The laws are over any rows: one proof for every table. Assumes nothing.
use Rattle.std.specs.Prelude.{Option, Some, None}
use Rattle.std.specs.declared.cmp.Ordering.{Ordering}
use Rattle.std.specs.declared.cmp.Ordering.TheVariants.{Less, Equal, Greater}
use Prim.Native.Nat.{ℕ, zero, suc, ◌<◌, ◌≤◌, ◌+◌}
use native.Mathlib.Omega.{arith}
use native.Mathlib.Nat.{eq-or-lt_of_le}
use mathlib.Core.Path.{◌≡◌, refl, sym, ap, ◌∙◌}
use mathlib.Core.Logic.{◌⊎◌, inl, inr, ⊎_elim}
use mathlib.Core.Bool.{Bool, true, false}
use mathlib.Core.List.{List, [], ◌∷◌}
use borrow.Author.Tests.{ltb-true, ltb-false}
use lib.Dec.{ltb}
use Rattle.ids.specs.Cmp.{cmp}
use Rattle.ids.specs.First.{first, or_at}
use Rattle.ids.proofs.ByteOrder.{clash, same_equal, split}
use Rattle.ids.proofs.Search.{first_before, first_hit, first_miss, first_found, first_none}
use Rattle.column_order.specs.Order.{cmp_parts, or_next, not_less}
use Rattle.column_order.proofs.Sorted.{parts_trans}
use Rattle.row_lookup.specs.Rows.{is_same, place_of, row_is}

-- keys that stand the same are the same
both_same : (o r : Ordering) → or_next o r ≡ Equal → (o ≡ Equal) × (r ≡ Equal)
both_same Less r e = clash (cc)
both_same Equal r e = (refl, e)
both_same Greater r e = clash (cc)

pub parts_same : (a b : List (List ℕ)) → cmp_parts a b ≡ Equal → a ≡ b
unfolding cmp_parts
parts_same [] [] e = refl
parts_same [] (y ∷ b) e = clash (cc)
parts_same (x ∷ a) [] e = clash (cc)
parts_same (x ∷ a) (y ∷ b) e =
    let h = both_same (cmp x y) (cmp_parts a b) e in
    let p = (same_equal x y).0 h.0 in
    let q = parts_same a b h.1 in cc

-- a key that does not come after one that is before a third is before the third
le_less : (a b c : List (List ℕ)) → (cmp_parts a b ≡ Greater → ⊥) → cmp_parts b c ≡ Less → cmp_parts a c ≡ Less
le_less a b c h e = go (cmp_parts a b) refl where
  go : (o : Ordering) → cmp_parts a b ≡ o → cmp_parts a c ≡ Less
  go Less p = parts_trans a b c p e
  go Equal p = rw (parts_same a b p) e
  go Greater p = absurd (h p)

less_of : (o : Ordering) → (not_less o ≡ true → ⊥) → o ≡ Less
less_of Less h = refl
less_of Equal h = absurd (h refl)
less_of Greater h = absurd (h refl)

not_less_of : (o : Ordering) → (o ≡ Less → ⊥) → not_less o ≡ true
not_less_of Less h = absurd (h refl)
not_less_of Equal h = refl
not_less_of Greater h = refl

pub is_other : (o : Ordering) → (o ≡ Equal → ⊥) → is_same o ≡ false
is_other Less q = refl
is_other Equal q = absurd (q refl)
is_other Greater q = refl

module _ (row : ℕ → List (List ℕ)) (key : List (List ℕ)) (n : ℕ) where
  abbrev pub stand : ℕ → Ordering
  stand k = cmp_parts (row k) key

  -- What a search has shown: rows below lo come before the key, rows from hi on do not.
  pub record Bracket (lo hi : ℕ) : Type 0 where
    pub lo_le : lo ≤ hi
    pub hi_le : hi ≤ n
    pub below : (k : ℕ) → k < lo → cmp_parts (row k) key ≡ Less
    pub above : (k : ℕ) → hi ≤ k → k < n → not_less (cmp_parts (row k) key) ≡ true

  pub start : Bracket 0 n
  start = record { lo_le = omega arith; hi_le = omega arith; below = λ k l. absurd (omega arith); above = λ k l m. absurd (omega arith) }

  pub found : (lo hi : ℕ) → Bracket lo hi → hi ≤ lo → lo ≡ place_of stand n
  unfolding place_of
  found lo hi b l = ⊎_elim here none (split (ltb lo n)) where
    before : (j : ℕ) → j < lo → not_less (stand j) ≡ false
    before j m = ap not_less (b.below j m)

    here : ltb lo n ≡ true → lo ≡ or_at n (first (λ k. not_less (stand k)) n)
    here e = ap (or_at n) (first_hit (λ k. not_less (stand k)) n lo (ltb-true lo n e) (b.above lo l (ltb-true lo n e)) before)

    none : ltb lo n ≡ false → lo ≡ or_at n (first (λ k. not_less (stand k)) n)
    none e =
        let q : lo ≡ n = omega (arith, b.lo_le, b.hi_le, ltb-false lo n e) in
        q ∙ ap (or_at n) (first_miss (λ k. not_less (stand k)) n (λ j m. before j (omega arith)))

  module _ (sorted : (i j : ℕ) → i < j → j < n → cmp_parts (row i) (row j) ≡ Greater → ⊥) (lo hi mid : ℕ) (b : Bracket lo hi) where
    pub up : mid < hi → stand mid ≡ Less → Bracket (mid + 1) hi
    up m e = record { lo_le = omega arith; hi_le = b.hi_le; below = less; above = b.above } where
      less : (k : ℕ) → k < mid + 1 → cmp_parts (row k) key ≡ Less
      less k l =
          let q : k ≤ mid = omega arith in
          ⊎_elim (λ (p : k ≡ mid). rw p e) (λ p. le_less (row k) (row mid) key (sorted k mid p (omega (arith, b.hi_le))) e) (eq-or-lt_of_le q)

    pub down : lo ≤ mid → mid < hi → (stand mid ≡ Less → ⊥) → Bracket lo mid
    down l m h = record { lo_le = l; hi_le = omega (arith, b.hi_le); below = b.below; above = more } where
      more : (k : ℕ) → mid ≤ k → k < n → not_less (cmp_parts (row k) key) ≡ true
      more k p q =
          not_less_of (cmp_parts (row k) key)
          (λ e. h (⊎_elim (λ (r : mid ≡ k). rw r e) (λ r. le_less (row mid) (row k) key (sorted mid k r q) e) (eq-or-lt_of_le p)))

  -- the key's place: rows before it come before the key, and the row there does not
  module _ (k : ℕ) (e : k ≡ place_of stand n) where
    pub place_le : k ≤ n
    unfolding place_of
    place_le = go (first (λ i. not_less (stand i)) n) refl where
      go : (f : Option ℕ) → first (λ i. not_less (stand i)) n ≡ f → k ≤ n
      go (Some p) q = omega (arith, e ∙ ap (or_at n) q, (first_found (λ i. not_less (stand i)) n p q).0)
      go None q = omega (arith, e ∙ ap (or_at n) q)

    pub earlier : (j : ℕ) → j < k → j < n → stand j ≡ Less
    unfolding place_of
    earlier j l m = less_of (stand j) (λ t. go (first (λ i. not_less (stand i)) n) refl t) where
      go : (f : Option ℕ) → first (λ i. not_less (stand i)) n ≡ f → not_less (stand j) ≡ true → ⊥
      go (Some p) q t = let z = first_before (λ i. not_less (stand i)) n p q j (omega (arith, e ∙ ap (or_at n) q)) in clash (cc)
      go None q t = let z = first_none (λ i. not_less (stand i)) n q j m in clash (cc)

    at_place : k < n → stand k ≡ Less → ⊥
    unfolding place_of
    at_place l s = go (first (λ i. not_less (stand i)) n) refl where
      go : (f : Option ℕ) → first (λ i. not_less (stand i)) n ≡ f → ⊥
      go (Some p) q =
          let r : k ≡ p = e ∙ ap (or_at n) q in
          let h : stand p ≡ Less = rw (← r) s in
          let z = (first_found (λ i. not_less (stand i)) n p q).1 in
          let w : not_less (stand p) ≡ false = ap not_less h in clash (cc)
      go None q = omega (arith, e ∙ ap (or_at n) q)

    -- from there on no row comes before the key, and after one that is not the key none is
    module _ (sorted : (i j : ℕ) → i < j → j < n → cmp_parts (row i) (row j) ≡ Greater → ⊥) where
      from_place : (j : ℕ) → k ≤ j → j < n → stand j ≡ Less → ⊥
      from_place j l m s =
          ⊎_elim (λ (q : k ≡ j). at_place (omega arith) (rw q s)) (λ q. at_place (omega arith) (le_less (row k) (row j) key (sorted k j q m) s)) (eq-or-lt_of_le l)

      pub none_after : (i : ℕ) → k ≤ i → i < n → (stand i ≡ Equal → ⊥) → (j : ℕ) → i ≤ j → j < n → stand j ≡ Equal → ⊥
      none_after i l m h j p q s = ⊎_elim (λ (r : i ≡ j). h (rw r s)) (λ r. go (stand i) refl r) (eq-or-lt_of_le p) where
        go : (o : Ordering) → stand i ≡ o → i < j → ⊥
        go Less f r = from_place i l m f
        go Equal f r = h f
        go Greater f r = sorted i j r q (rw (parts_same (row j) key s) f)

    -- of rows that ascend the one there is the key, or none is
    module _ (strict : (i j : ℕ) → i < j → j < n → cmp_parts (row i) (row j) ≡ Less) where
      later : (j : ℕ) → k < j → j < n → (stand j ≡ Equal → ⊥)
      later j l m s = at_place (omega arith) (rw (← parts_same (row j) key s) (strict k j l m))

      pub here : k < n → stand k ≡ Equal → Some k ≡ first (row_is stand) n
      unfolding row_is
      here l s = first_hit (row_is stand) n k l (ap is_same s) (λ j m. ap is_same (earlier j m (omega arith)))

      pub nowhere : (k < n → stand k ≡ Equal → ⊥) → None ≡ first (row_is stand) n
      unfolding row_is
      nowhere h = first_miss (row_is stand) n one where
        one : (j : ℕ) → j < n → row_is stand j ≡ false
        one j m = ⊎_elim
            (λ t. ap is_same (earlier j (ltb-true j k t) m))
            (λ t. ⊎_elim (λ (q : k ≡ j). is_other (stand j) (λ s. h (rw q m) (rw q s))) (λ q. is_other (stand j) (later j q m)) (eq-or-lt_of_le (ltb-false j k t)))
            (split (ltb j k))
