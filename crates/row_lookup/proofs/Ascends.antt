-- Rows that a check of the tables has found to ascend also ascend as the searches here ask. Assumes nothing.
use Rattle.std.specs.declared.cmp.Ordering.{Ordering}
use Rattle.std.specs.declared.cmp.Ordering.TheVariants.{Less, Equal, Greater}
use Prim.Native.Nat.{ℕ, ◌<◌}
use mathlib.Core.Path.{◌≡◌}
use mathlib.Core.Bool.{true}
use mathlib.Core.List.{List, [], ◌∷◌}
use native.Mathlib.Omega.{arith}
use Rattle.ids.specs.Cmp.{cmp}
use Rattle.ids.specs.Pool.{cell_of, id_of}
use Rattle.ids.specs.declared.pool.IdColumn.{IdColumn}
use Rattle.ids.specs.declared.pool.Span.{Span}
use Rattle.ids.proofs.ByteOrder.{clash}
use Rattle.days.specs.Days.{is_date, ordinal}
use Rattle.days.proofs.Ascending.{ordinal_order}
use Rattle.column_order.specs.Order.{cmp_parts, cmp_rows, or_next, parts_of}
use Rattle.column_order.specs.declared.order.Key.{Key}
use Rattle.column_order.specs.declared.order.Key.TheVariants.{IdWord, Ids, Dated}
use Rattle.row_stands.specs.Stands.{parts_at}
use Rattle.row_lookup.specs.Rows.{InOrder, Ascend}
use Rattle.row_stands.specs.declared.rows.Rows.TheVariants.{Ranges, Exceptions, Lines}

module _ (bytes words : List ℕ) where
  -- rows below n are in the order of their keys
  abbrev Keyed : Key → ℕ → Type 0
  Keyed key n = (i j : ℕ) → i < j → j < n → cmp_rows bytes words key i j ≡ Less

  pub ranges_ascend : (f s : IdColumn) (n : ℕ) → Keyed (Ids f s) n → Ascend bytes words (Ranges f s) n
  unfolding cmp_rows parts_of parts_at
  ranges_ascend f s n e = record { pairs = e }

  -- dates stand to each other as their days do
  day_order : (x y : ℕ) → is_date x ≡ true → is_date y ≡ true → cmp (ordinal x ∷ []) (ordinal y ∷ []) ≡ cmp (x ∷ []) (y ∷ [])
  unfolding cmp
  day_order x y p q = rw (ordinal_order x y p q, ordinal_order y x q p)

  pub exceptions_ascend : (f s : IdColumn) (d m : Span) (n : ℕ) → Keyed (Dated f s d m) n →
      ((k : ℕ) → k < n → is_date (cell_of words d k) ≡ true) → Ascend bytes words (Exceptions f s d m) n
  unfolding cmp_rows parts_of parts_at cmp_parts
  exceptions_ascend f s d m n e dates = record {
    pairs = λ i j l h.
        rw (day_order (cell_of words d i) (cell_of words d j) (dates i (omega arith)) (dates j h)) (e i j l h);
  }

  first_in_order : (o r : Ordering) → or_next o r ≡ Less → or_next o Equal ≡ Greater → ⊥
  first_in_order Less r e h = clash (cc)
  first_in_order Equal r e h = clash (cc)
  first_in_order Greater r e h = clash (cc)

  pub lines_in_order : (t : IdColumn) (s : Span) (n : ℕ) → Keyed (IdWord t s) n → InOrder bytes words (Lines t) n
  unfolding cmp_rows parts_of parts_at cmp_parts
  lines_in_order t s n e = record { pairs = λ i j l h. first_in_order (cmp (id_of bytes words t i) (id_of bytes words t j)) _ (e i j l h) }
