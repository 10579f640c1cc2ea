-- Rows that are not unsorted ascend: each comes before all later ones. Assumes nothing.
use Rattle.std.specs.declared.cmp.Ordering.{Ordering}
use Rattle.std.specs.declared.cmp.Ordering.TheVariants.{Less, Equal, Greater}
use Prim.Native.Nat.{ℕ, zero, suc, ◌<◌, ◌+◌, ◌-◌}
use native.Mathlib.Omega.{arith}
use native.Mathlib.Nat.{eq-or-lt_of_le, le_of_suc-le-suc}
use native.Mathlib.Numerals.{add-one}
use mathlib.Core.Path.{◌≡◌, refl, sym, ◌∙◌}
use mathlib.Core.Logic.{◌⊎◌, inl, inr, ⊎_elim}
use mathlib.Core.Bool.{Bool, true, false, cond}
use mathlib.Core.List.{List, [], ◌∷◌}
use borrow.Author.Tests.{ltb-true}
use lib.Dec.{ltb}
use Rattle.ids.specs.Cmp.{cmp}
use Rattle.ids.specs.Pool.{cell_of, id_of}
use Rattle.ids.specs.Rows.{Ascending}
use Rattle.ids.specs.declared.pool.IdColumn.{IdColumn}
use Rattle.ids.specs.declared.pool.Span.{Span}
use Rattle.ids.proofs.ByteOrder.{clash, less_trans, same_equal}
use Rattle.columns.specs.Rows.{some}
use Rattle.columns.proofs.Passed.{fails}
use Rattle.column_order.specs.declared.order.Key.{Key}
use Rattle.column_order.specs.declared.order.Key.TheVariants.{Word, Id}
use Rattle.column_order.specs.Order.{cmp_parts, cmp_rows, or_next, not_less, out_of_order_at, parts_of}
use Rattle.column_order.proofs.Keys.{only_part}

-- The order of keys is transitive.
first_part : (o r : Ordering) → or_next o r ≡ Less → (o ≡ Less) ⊎ ((o ≡ Equal) × (r ≡ Less))
first_part Less r e = inl refl
first_part Equal r e = inr (refl, e)
first_part Greater r e = clash (cc)

pub parts_trans : (a b c : List (List ℕ)) → cmp_parts a b ≡ Less → cmp_parts b c ≡ Less → cmp_parts a c ≡ Less
unfolding cmp_parts
parts_trans [] [] c p q = clash (cc)
parts_trans [] (y ∷ b) [] p q = clash (cc)
parts_trans [] (y ∷ b) (z ∷ c) p q = refl
parts_trans (x ∷ a) [] c p q = clash (cc)
parts_trans (x ∷ a) (y ∷ b) [] p q = q
parts_trans (x ∷ a) (y ∷ b) (z ∷ c) p q =
    ⊎_elim
    (λ l. ⊎_elim (λ m. simp (less_trans x y z l m)) (λ m. simp (rw ((same_equal y z).0 m.0) at l)) (first_part (cmp y z) (cmp_parts b c) q))
    (λ l. let e = sym ((same_equal x y).0 l.0) in ⊎_elim (λ m. simp (rw e at m)) (λ m. simp (rw e at m.0) (parts_trans a b c l.1 m.1)) (first_part (cmp y z) (cmp_parts b c) q))
    (first_part (cmp x y) (cmp_parts a b) p)

less_of : (o : Ordering) → not_less o ≡ false → o ≡ Less
less_of Less e = refl
less_of Equal e = clash (cc)
less_of Greater e = clash (cc)

-- Of two numbers that are Less the first is below the second.
below : (b c : Bool) → cond b Less (cond c Greater Equal) ≡ Less → b ≡ true
below true c e = refl
below false c e = never c e where
  never : (c : Bool) → cond c Greater Equal ≡ Less → false ≡ true
  never true e = clash (cc)
  never false e = clash (cc)

word_less : (x y : ℕ) → cmp (x ∷ []) (y ∷ []) ≡ Less → x < y
unfolding cmp
word_less x y e = ltb-true x y (below (ltb x y) (ltb y x) e)

module _ (bytes words : List ℕ) where
  module _ (key : Key) where
    pub rows_trans : (i j k : ℕ) → cmp_rows bytes words key i j ≡ Less → cmp_rows bytes words key j k ≡ Less → cmp_rows bytes words key i k ≡ Less
    unfolding cmp_rows
    rows_trans i j k = parts_trans (parts_of bytes words key i) (parts_of bytes words key j) (parts_of bytes words key k)

    module _ (n : ℕ) (e : some (out_of_order_at bytes words key) (n - 1) ≡ false) where
      neighbours : (k : ℕ) → k + 1 < n → cmp_rows bytes words key k (k + 1) ≡ Less
      unfolding out_of_order_at
      neighbours k l = less_of _ (fails (out_of_order_at bytes words key) (n - 1) e k (omega arith))

      pub rows_ascend : (i j : ℕ) → i < j → j < n → cmp_rows bytes words key i j ≡ Less
      rows_ascend i zero l m = absurd (omega arith)
      rows_ascend i (suc j) l m =
          let last : cmp_rows bytes words key j (suc j) ≡ Less = rw add-one at (neighbours j (omega arith)) in
          ⊎_elim (λ (q : i ≡ j). rw q last) (λ q. rows_trans i j (suc j) (rows_ascend i j q (omega arith)) last) (eq-or-lt_of_le (le_of_suc-le-suc l))

  -- By an id: `ids::find` applies.
  pub ids_ascend : (col : IdColumn) (n : ℕ) → some (out_of_order_at bytes words (Id col)) (n - 1) ≡ false → Ascending (id_of bytes words col) n
  unfolding cmp_rows parts_of
  ids_ascend col n e = record { pairs = λ i j l m. sym (only_part _ _) ∙ rows_ascend (Id col) n e i j l m }

  -- By a number: the numbers ascend.
  pub numbers_ascend : (s : Span) (n : ℕ) → some (out_of_order_at bytes words (Word s)) (n - 1) ≡ false →
      (i j : ℕ) → i < j → j < n → cell_of words s i < cell_of words s j
  unfolding cmp_rows parts_of
  numbers_ascend s n e i j l m = word_less _ _ (sym (only_part _ _) ∙ rows_ascend (Word s) n e i j l m)
