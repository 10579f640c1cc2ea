-- The order of a table's rows. A key has parts, each a text: an id, or the one number of a column. Rows stand in the order of the first part
-- in which they differ.
use Rattle.std.specs.declared.cmp.Ordering.{Ordering}
use Rattle.std.specs.declared.cmp.Ordering.TheVariants.{Less, Equal, Greater}
use Rattle.std.specs.Prelude.{ℕ, ◌+◌, Bool, true, false, List, [], ◌∷◌}
use Rattle.ids.specs.Cmp.{cmp}
use Rattle.ids.specs.Pool.{cell_of, id_of}
use Rattle.columns.specs.Rows.{bit_of}
use Rattle.column_order.specs.declared.order.Key.{Key}
use Rattle.column_order.specs.declared.order.Key.TheVariants.{Word, Id, IdWord, Ids, Dated}

-- the parts of row k's key
unfoldable pub parts_of : List ℕ → List ℕ → Key → ℕ → List (List ℕ)
parts_of bytes words (Word s) k = (cell_of words s k ∷ []) ∷ []
parts_of bytes words (Id a) k = id_of bytes words a k ∷ []
parts_of bytes words (IdWord a s) k = id_of bytes words a k ∷ (cell_of words s k ∷ []) ∷ []
parts_of bytes words (Ids a b) k = id_of bytes words a k ∷ id_of bytes words b k ∷ []
parts_of bytes words (Dated a b s f) k = id_of bytes words a k ∷ id_of bytes words b k ∷ (cell_of words s k ∷ []) ∷ (bit_of bytes f k ∷ []) ∷ []

-- the first order, and where that is Equal the second
abbrev pub or_next : Ordering → Ordering → Ordering
or_next Less o = Less
or_next Equal o = o
or_next Greater o = Greater

-- by the first part that differs
unfoldable pub cmp_parts : List (List ℕ) → List (List ℕ) → Ordering
cmp_parts [] [] = Equal
cmp_parts [] (y ∷ b) = Less
cmp_parts (x ∷ a) [] = Greater
cmp_parts (x ∷ a) (y ∷ b) = or_next (cmp x y) (cmp_parts a b)

-- how row i stands to row j
unfoldable pub cmp_rows : List ℕ → List ℕ → Key → ℕ → ℕ → Ordering
cmp_rows bytes words key i j = cmp_parts (parts_of bytes words key i) (parts_of bytes words key j)

abbrev pub not_less : Ordering → Bool
not_less Less = false
not_less Equal = true
not_less Greater = true

-- row k does not come before the next
unfoldable pub out_of_order_at : List ℕ → List ℕ → Key → ℕ → Bool
out_of_order_at bytes words key k = not_less (cmp_rows bytes words key k (k + 1))
