-- A table of ids, as its rows and their count: row k is a text.
use Rattle.std.specs.declared.cmp.Ordering.TheVariants.{Less}
use Rattle.std.specs.Prelude.{ℕ, ◌<◌, ◌≤◌, ◌≡◌, List, Bool, length, Option}
use Rattle.ids.specs.Cmp.{cmp, equal}
use Rattle.ids.specs.First.{first}

-- row k is the key
abbrev pub row_is : (ℕ → List ℕ) → List ℕ → ℕ → Bool
row_is row key k = equal (row k) key

-- the first row that is the key; in rows that ascend it is the only one (`found_row` in proofs/Rows)
unfoldable pub row_of : (ℕ → List ℕ) → ℕ → List ℕ → Option ℕ
row_of row n key = first (row_is row key) n

-- each row comes before all later ones
pub record Ascending (row : ℕ → List ℕ) (n : ℕ) : Type 0 where
  pub pairs : (i j : ℕ) → i < j → j < n → cmp (row i) (row j) ≡ Less

-- rows that ascend, none over 96 bytes
pub record GoodIds (row : ℕ → List ℕ) (n : ℕ) : Type 0 where
  pub ascending : Ascending row n
  pub short : (k : ℕ) → k < n → length (row k) ≤ 96
