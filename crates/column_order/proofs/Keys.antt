-- How rows stand by the parts of their key: the first part that differs decides. Assumes nothing.
use Rattle.std.specs.declared.cmp.Ordering.{Ordering}
use Rattle.std.specs.declared.cmp.Ordering.TheVariants.{Less, Equal, Greater}
use Prim.Native.Nat.{ℕ}
use mathlib.Core.Path.{◌≡◌, refl, sym, ap, ◌∙◌}
use mathlib.Core.List.{List, [], ◌∷◌}
use Rattle.ids.specs.Cmp.{cmp}
use Rattle.column_order.specs.Order.{cmp_parts, or_next}

-- o is how the first parts stand
module _ (x y : List ℕ) (a b : List (List ℕ)) {o : Ordering} (e : o ≡ cmp x y) where
  pub part_less : o ≡ Less → Less ≡ cmp_parts (x ∷ a) (y ∷ b)
  unfolding cmp_parts
  part_less t = sym (simp (sym e ∙ t))

  pub part_more : o ≡ Greater → Greater ≡ cmp_parts (x ∷ a) (y ∷ b)
  unfolding cmp_parts
  part_more t = sym (simp (sym e ∙ t))

  pub part_same : {r : Ordering} → o ≡ Equal → r ≡ cmp_parts a b → r ≡ cmp_parts (x ∷ a) (y ∷ b)
  unfolding cmp_parts
  part_same t q = q ∙ sym (simp (sym e ∙ t))

last_part : (o : Ordering) → or_next o Equal ≡ o
last_part Less = refl
last_part Equal = refl
last_part Greater = refl

pub only_part : (x y : List ℕ) → cmp_parts (x ∷ []) (y ∷ []) ≡ cmp x y
unfolding cmp_parts
only_part x y = last_part (cmp x y)

-- two parts first, then the others
regroup : (o p q : Ordering) → or_next o (or_next p q) ≡ or_next (or_next o (or_next p Equal)) q
regroup Less p q = refl
regroup Equal p q = inner p where
  inner : (p : Ordering) → or_next p q ≡ or_next (or_next p Equal) q
  inner Less = refl
  inner Equal = refl
  inner Greater = refl
regroup Greater p q = refl

module _ (x y z w : List ℕ) (a b : List (List ℕ)) {o : Ordering} (e : o ≡ cmp_parts (x ∷ y ∷ []) (z ∷ w ∷ [])) where
  parted : cmp_parts (x ∷ y ∷ a) (z ∷ w ∷ b) ≡ or_next o (cmp_parts a b)
  unfolding cmp_parts
  parted = regroup (cmp x z) (cmp y w) (cmp_parts a b) ∙ ap (λ (p : Ordering). or_next p (cmp_parts a b)) (sym e)

  pub two_less : o ≡ Less → Less ≡ cmp_parts (x ∷ y ∷ a) (z ∷ w ∷ b)
  two_less t = sym (parted ∙ simp t)

  pub two_more : o ≡ Greater → Greater ≡ cmp_parts (x ∷ y ∷ a) (z ∷ w ∷ b)
  two_more t = sym (parted ∙ simp t)

  pub two_same : {r : Ordering} → o ≡ Equal → r ≡ cmp_parts a b → r ≡ cmp_parts (x ∷ y ∷ a) (z ∷ w ∷ b)
  two_same t q = q ∙ sym (parted ∙ simp t)

-- texts that are known to be others
pub same_texts : {x y a b : List ℕ} → x ≡ a → y ≡ b → cmp x y ≡ cmp a b
same_texts p q = cc

pub same_words : {x y a b : ℕ} → x ≡ a → y ≡ b → cmp (x ∷ []) (y ∷ []) ≡ cmp (a ∷ []) (b ∷ [])
same_words p q = cc
