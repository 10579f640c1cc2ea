-- How a row of a table stands to a key. A key has parts, as in column_order/specs/Ordering.antt; a date's part is its day.
use Rattle.std.specs.declared.cmp.Ordering.{Ordering}
use Rattle.std.specs.Prelude.{ℕ, List, [], ◌∷◌}
use Rattle.ids.specs.Pool.{cell_of, id_of}
use Rattle.days.specs.Days.{ordinal}
use Rattle.columns.specs.Rows.{bit_of}
use Rattle.column_order.specs.Order.{cmp_parts}
use Rattle.row_stands.specs.declared.rows.Rows.{Rows}
use Rattle.row_stands.specs.declared.rows.Rows.TheVariants.{Ranges, Exceptions, Lines}

-- the parts of row k
unfoldable pub parts_at : List ℕ → List ℕ → Rows → ℕ → List (List ℕ)
parts_at bytes words (Ranges f s) k = id_of bytes words f k ∷ id_of bytes words s k ∷ []
parts_at bytes words (Exceptions f s d m) k = id_of bytes words f k ∷ id_of bytes words s k ∷ (ordinal (cell_of words d k) ∷ []) ∷ (bit_of bytes m k ∷ []) ∷ []
parts_at bytes words (Lines t) k = id_of bytes words t k ∷ []

-- the parts of what is asked of: two texts, a day and a flag, as far as the rows have them
unfoldable pub key_of : Rows → List ℕ → List ℕ → ℕ → ℕ → List (List ℕ)
key_of (Ranges f s) a b day bit = a ∷ b ∷ []
key_of (Exceptions f s d m) a b day bit = a ∷ b ∷ (day ∷ []) ∷ (bit ∷ []) ∷ []
key_of (Lines t) a b day bit = a ∷ []

-- how row k stands to what is asked of
unfoldable pub stand_of : List ℕ → List ℕ → Rows → List ℕ → List ℕ → ℕ → ℕ → ℕ → Ordering
stand_of bytes words rows a b day bit k = cmp_parts (parts_at bytes words rows k) (key_of rows a b day bit)
