-- Rows of a table that ascend, and the place of a key among them.
use Rattle.std.specs.declared.cmp.Ordering.{Ordering}
use Rattle.std.specs.declared.cmp.Ordering.TheVariants.{Less, Equal, Greater}
use Rattle.std.specs.Prelude.{ℕ, ◌<◌, ◌≡◌, Bool, true, false, List}
use Rattle.ids.specs.First.{first, or_at}
use Rattle.column_order.specs.Order.{cmp_parts, not_less}
use Rattle.row_stands.specs.Stands.{parts_at}
use Rattle.row_stands.specs.declared.rows.Rows.{Rows}

-- the first of n rows that does not come before what is asked of, or n
unfoldable pub place_of : (ℕ → Ordering) → ℕ → ℕ
place_of stand n = or_at n (first (λ k. not_less (stand k)) n)

abbrev pub is_same : Ordering → Bool
is_same Less = false
is_same Equal = true
is_same Greater = false

-- row k is what is asked of
unfoldable pub row_is : (ℕ → Ordering) → ℕ → Bool
row_is stand k = is_same (stand k)

-- no row comes after a later one
pub record InOrder (bytes words : List ℕ) (rows : Rows) (n : ℕ) : Type 0 where
  pub pairs : (i j : ℕ) → i < j → j < n → cmp_parts (parts_at bytes words rows i) (parts_at bytes words rows j) ≡ Greater → ⊥

-- each row comes before all later ones
pub record Ascend (bytes words : List ℕ) (rows : Rows) (n : ℕ) : Type 0 where
  pub pairs : (i j : ℕ) → i < j → j < n → cmp_parts (parts_at bytes words rows i) (parts_at bytes words rows j) ≡ Less
